-- Masks by their bits.
use Rattle.std.proofs.Common.{◌≡◌, ℕ, ◌/◌, ◌%◌, ◌^◌, ◌+◌, ◌==◌, ◌&&◌, ◌||◌, nat_lt, Bool, true, false, bit_and, bit_or, arith, if◌then◌else◌}
use Rattle.std.proofs.lemmas.Grind.{common_steps}
use Rattle.std.proofs.lemmas.Nat.Bits.{bit_at_and, bit_at_or, bit_at-lt, bit_at-zero, bit_at-pow_same, bit_at-pow_other}

-- a bit is set where it is 1
abbrev pub bit_in : ℕ → ℕ → Bool
bit_in n i = n / 2 ^ i % 2 == 1

pub or_bit : (a b i : ℕ) → bit_in (bit_or a b) i ≡ (bit_in a i || bit_in b i)
or_bit a b i = grind (arith, common_steps, bit_at_or a b i, bit_at-lt a i, bit_at-lt b i)

pub and_bit : (a b i : ℕ) → bit_in (bit_and a b) i ≡ (bit_in a i && bit_in b i)
and_bit a b i = grind (arith, common_steps, bit_at_and a b i, bit_at-lt a i, bit_at-lt b i)

pub pow_bit : (k i : ℕ) → bit_in (2 ^ k) i ≡ (k == i)
pow_bit k i = grind (arith, common_steps, bit_at-pow_same k, bit_at-pow_other k i)

pub zero_bit : (i : ℕ) → bit_in 0 i ≡ false
zero_bit i = grind (arith, common_steps, bit_at-zero i)

-- a mask that has been tested for the vifs below n
abbrev pub HasBelow : (ℕ → Bool) → ℕ → ℕ → Type 0
HasBelow test n m = (i : ℕ) → bit_in m i ≡ (nat_lt i n && test i)

pub none_below : (test : ℕ → Bool) → HasBelow test 0 0
none_below test i = grind (arith, common_steps, zero_bit i)

-- one more vif is tested
pub next_bit : (test : ℕ → Bool) (n m : ℕ) (b : Bool) → HasBelow test n m → b ≡ test n
    → HasBelow test (n + 1) (if b then bit_or m (2 ^ n) else m)
next_bit test n m true below is i = grind (arith, common_steps, below i, or_bit m (2 ^ n) i, pow_bit n i, is)
next_bit test n m false below is i = grind (arith, common_steps, below i, is)
