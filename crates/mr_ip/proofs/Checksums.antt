-- The checksum of a made head.
use Rattle.std.proofs.Common.{◌≡◌, ℕ, ◌+◌, ◌-◌, ◌*◌, ◌/◌, ◌%◌, ◌<◌, ◌≤◌, ◌==◌, ◌∙◌, ◌||◌, ap, sym, subst, refl, true, false, not, nat_lt, List, [], ◌∷◌, length, get_or, take, set, zero, suc, arith}
use Rattle.std.proofs.lemmas.Bool.Decides.{nat_tests}
use Rattle.std.proofs.Math.Seq.{take-length}
use Rattle.mr_base.specs.Heads.{is_head, head_length, ones_sum, two_at, four_at, with_two, is_multicast, is_link_local, is_bad_source}
use Rattle.mr_ip.specs.Sums.{carried}
use Rattle.mr_ip.specs.MadeHeads.{unsummed_head, made_head}
use Rattle.mr_ip.proofs.Heads.{PassesEach, is_head-passes, not_outside, at_least}
use Rattle.mr_ip.proofs.Sums.{AreBytes, plus-carried}

-- the plain sum of the numbers of 16 bits
abbrev pub word_sum : List ℕ → ℕ
word_sum (a ∷ b ∷ bs) = a * 256 + b + word_sum bs
word_sum _ = 0

pub ones_sum-word_sum : (s : ℕ) (bs : List ℕ) → AreBytes bs → ones_sum (carried s) bs ≡ carried (s + word_sum bs)
ones_sum-word_sum s [] all = let e : s ≡ s + 0 = omega arith in ap carried e
ones_sum-word_sum s (a ∷ []) all = let e : s ≡ s + 0 = omega arith in ap carried e
ones_sum-word_sum s (a ∷ b ∷ bs) all =
    let f : a < 256 = all 0 in
    let g : b < 256 = all 1 in
    let e : s + (a * 256 + b) + word_sum bs ≡ s + (a * 256 + b + word_sum bs) = omega arith in
    ap (λ n. ones_sum n bs) (plus-carried s (a * 256 + b) (omega arith))
    ∙ ones_sum-word_sum (s + (a * 256 + b)) bs (λ k. all (suc (suc k)))
    ∙ ap carried e

pub AreBytes-set : (bs : List ℕ) (i v : ℕ) → AreBytes bs → v < 256 → AreBytes (set bs i v)
AreBytes-set [] i v all h = all
AreBytes-set (b ∷ bs) zero v all h = λ k. elim k as (λ k. get_or (v ∷ bs) k 0 < 256) [ zero ↦ h | suc j ↦ all (suc j) ]
AreBytes-set (b ∷ bs) (suc i) v all h =
    λ k. elim k as (λ k. get_or (b ∷ set bs i v) k 0 < 256) [
      | zero ↦ all 0
      | suc j ↦ AreBytes-set bs i v (λ m. all (suc m)) h j
    ]

-- a sum with its complement added
pub carried-whole : (n : ℕ) → 0 < n → carried (n + (65535 - carried n)) ≡ 65535
carried-whole n h = grind (arith, nat_tests)

-- A number where zeros stood, in bytes 10 and 11, counts with the others.
filled : (a b c d e f g h i j n : ℕ) (bs : List ℕ) → n < 65536 → AreBytes (a ∷ b ∷ c ∷ d ∷ e ∷ f ∷ g ∷ h ∷ i ∷ j ∷ 0 ∷ 0 ∷ bs)
    → ones_sum 0 (with_two (a ∷ b ∷ c ∷ d ∷ e ∷ f ∷ g ∷ h ∷ i ∷ j ∷ 0 ∷ 0 ∷ bs) 10 n)
    ≡ carried (word_sum (a ∷ b ∷ c ∷ d ∷ e ∷ f ∷ g ∷ h ∷ i ∷ j ∷ 0 ∷ 0 ∷ bs) + n)
filled a b c d e f g h i j n bs small all =
    let zeros = a ∷ b ∷ c ∷ d ∷ e ∷ f ∷ g ∷ h ∷ i ∷ j ∷ 0 ∷ 0 ∷ bs in
    ones_sum-word_sum 0 (with_two zeros 10 n)
    (AreBytes-set (set zeros 10 (n / 256)) 11 (n % 256)
    (AreBytes-set zeros 10 (n / 256) all (omega arith)) (omega arith))
    ∙ ap carried (omega arith)

-- With the complement of its sum a head sums to 65,535.
completed : (a b c d e f g h i j : ℕ) (bs : List ℕ) → 0 < a → AreBytes (a ∷ b ∷ c ∷ d ∷ e ∷ f ∷ g ∷ h ∷ i ∷ j ∷ 0 ∷ 0 ∷ bs)
    → let zeros = a ∷ b ∷ c ∷ d ∷ e ∷ f ∷ g ∷ h ∷ i ∷ j ∷ 0 ∷ 0 ∷ bs in
    ones_sum 0 (with_two zeros 10 (65535 - ones_sum 0 zeros)) ≡ 65535
completed a b c d e f g h i j bs some all =
    let zeros = a ∷ b ∷ c ∷ d ∷ e ∷ f ∷ g ∷ h ∷ i ∷ j ∷ 0 ∷ 0 ∷ bs in
    let n = word_sum zeros in
    let sum : ones_sum 0 zeros ≡ carried n = ones_sum-word_sum 0 zeros all ∙ ap carried (omega arith) in
    rw sum (filled a b c d e f g h i j (65535 - carried n) bs (omega arith) all ∙ carried-whole n (omega arith))

-- Bytes of a head without options that sums to 65,535 pass each test, with a length and addresses that do.
plain_head : (bs : List ℕ) (total src dst : ℕ) → get_or bs 0 0 ≡ 69 → length bs ≡ 20 → ones_sum 0 bs ≡ 65535
    → two_at bs 2 ≡ total → four_at bs 12 ≡ src → four_at bs 16 ≡ dst → 20 ≤ total
    → is_bad_source src ≡ false → is_multicast dst ≡ true → is_link_local dst ≡ false → PassesEach total bs
plain_head bs total src dst first long sum t s d least source multicast forwarded =
    let head : head_length bs ≡ 20 = ap (λ b. 4 * (b % 16)) first in
    let all : take 20 bs ≡ bs = rw (sym long) (take-length bs) in
    record {
      long = at_least 20 total least;
      version = rw first refl;
      whole = subst (λ h. (nat_lt h 20 || nat_lt total h) ≡ false) (sym head) (not_outside 20 20 total (omega arith) least);
      sum = subst (λ h. not (ones_sum 0 (take h bs) == 65535) ≡ false) (sym head)
          (subst (λ h. not (ones_sum 0 h == 65535) ≡ false) (sym all) (rw sum refl));
      total = rw (head, t) (not_outside 20 total total least (omega arith));
      multicast = subst (λ a. not (is_multicast a) ≡ false) (sym d) (rw multicast refl);
      forwarded = subst (λ a. is_link_local a ≡ false) (sym d) forwarded;
      source = subst (λ a. is_bad_source a ≡ false) (sym s) source;
    }

pub is_head-made_head : (ident ttl src dst total : ℕ) → AreBytes (unsummed_head ident ttl src dst total) → 20 ≤ total
    → is_bad_source src ≡ false → is_multicast dst ≡ true → is_link_local dst ≡ false
    → is_head (made_head ident ttl src dst total) total ttl src dst ≡ true
unfolding unsummed_head made_head
is_head-made_head ident ttl src dst total all least source multicast forwarded =
    let bs = made_head ident ttl src dst total in
    let ends =
    (src / 16777216) ∷ (src / 65536 % 256) ∷ (src / 256 % 256) ∷ (src % 256)
    ∷ (dst / 16777216) ∷ (dst / 65536 % 256) ∷ (dst / 256 % 256) ∷ (dst % 256) ∷ [] in
    let sum : ones_sum 0 bs ≡ 65535 =
    completed 69 0 (total / 256) (total % 256) (ident / 256) (ident % 256) 0 0 ttl 17 ends (omega arith) all in
    let t : two_at bs 2 ≡ total = omega arith in
    let s : four_at bs 12 ≡ src = omega arith in
    let d : four_at bs 16 ≡ dst = omega arith in
    is_head-passes bs total ttl src dst
    (plain_head bs total src dst refl refl sum t s d least source multicast forwarded) refl t refl s d
