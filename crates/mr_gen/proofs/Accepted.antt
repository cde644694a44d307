-- Each entry's packet begins with an accepted head.
use Rattle.std.proofs.Common.{◌≡◌, ℕ, zero, suc, ◌+◌, ◌%◌, ◌<◌, Bool, true, false, Option, Some, None, refl, ap, ◌∙◌, arith}
use Rattle.std.specs.List.{list_all}
use Rattle.std.specs.Prelude.{◌&&◌, is_none}
use Rattle.mr_base.specs.Heads.{cause_in, cause_of}
use Rattle.mr_base.specs.declared.head_error.HeadError.{HeadError}
use Rattle.mr_gen.specs.Entries.{packet_of}
use Rattle.mr_ip.specs.MadeHeads.{made_head, unsummed_head}
use Rattle.mr_load.specs.Callers.{from_on}

left : (a b : Bool) → (a && b) ≡ true → a ≡ true
left true b e = refl
left false b e = e

right : (a b : Bool) → (a && b) ≡ true → b ≡ true
right true b e = e
right false b e = absurd (cc (e))

-- what a test says of each of some numbers
below : (p : ℕ → Bool) (a k d : ℕ) → list_all p (from_on a k) ≡ true → d < k → p (a + d) ≡ true
below p a zero d e within = absurd (omega (arith, within))
below p a (suc k) zero e within = let number : a + 0 ≡ a = omega arith in rw number (left (p a) (list_all p (from_on (a + 1) k)) e)
below p a (suc k) (suc d) e within =
    let number : a + suc d ≡ a + 1 + d = omega arith in
    rw number (below p (a + 1) k d (right (p a) (list_all p (from_on (a + 1) k)) e) (omega (arith, within)))

none_of : (o : Option HeadError) → is_none o ≡ true → o ≡ None
none_of None e = refl
none_of (Some x) e = absurd (cc (e))

all_accepted : list_all (λ k. is_none (cause_of (packet_of k))) (from_on 0 64) ≡ true
unfolding cause_in made_head unsummed_head
all_accepted = refl

pub accepted : (k : ℕ) → k < 64 → cause_of (packet_of k) ≡ None
accepted k within =
    let number : 0 + k ≡ k = omega arith in
    none_of (cause_of (packet_of k)) (rw number at (below (λ j. is_none (cause_of (packet_of j))) 0 64 k all_accepted within))

pub word_accepted : (w : ℕ) → cause_of (packet_of (w % 64)) ≡ None
word_accepted w = accepted (w % 64) (omega arith)
