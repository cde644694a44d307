-- What an accepted head is, test by test.
use Rattle.std.proofs.Common.{◌≡◌, ℕ, ◌*◌, ◌<◌, ◌≤◌, ◌/◌, ◌%◌, ◌==◌, ◌&&◌, ◌||◌, ◌∙◌, ap, sym, subst, Bool, true, false, not, nat_lt, cond, Option, Some, None, List, length, get_or, take, refl, arith}
use Rattle.std.proofs.lemmas.Bool.Decides.{nat_tests}
use Rattle.std.proofs.lemmas.List.{get_or-take, length-take-le, take-take}
use Rattle.mr_base.specs.Heads.{cause_in, is_head, head_length, ones_sum, two_at, four_at, is_multicast, is_link_local, is_bad_source}

-- Each test for a cause fails.
pub record PassesEach (n : ℕ) (bs : List ℕ) : Type 0 where
  pub long : nat_lt n 20 ≡ false
  pub version : not (get_or bs 0 0 / 16 == 4) ≡ false
  pub whole : (nat_lt (head_length bs) 20 || nat_lt n (head_length bs)) ≡ false
  pub sum : not (ones_sum 0 (take (head_length bs) bs) == 65535) ≡ false
  pub total : (nat_lt (two_at bs 2) (head_length bs) || nat_lt n (two_at bs 2)) ≡ false
  pub multicast : not (is_multicast (four_at bs 16)) ≡ false
  pub forwarded : is_link_local (four_at bs 16) ≡ false
  pub source : is_bad_source (four_at bs 12) ≡ false

unless : {A : Type 0} (b : Bool) (x : A) (o : Option A) → cond b (Some x) o ≡ None → (b ≡ false) × (o ≡ None)
unless true x o e = cc
unless false x o e = (refl, e)

pub passes : (n : ℕ) (bs : List ℕ) → cause_in n bs ≡ None → PassesEach n bs
unfolding cause_in
passes n bs e =
    let a = unless _ _ _ e in
    let b = unless _ _ _ a.1 in
    let c = unless _ _ _ b.1 in
    let d = unless _ _ _ c.1 in
    let f = unless _ _ _ d.1 in
    let g = unless _ _ _ f.1 in
    let h = unless _ _ _ g.1 in
    let i = unless _ _ _ h.1 in
    record {
      long = a.0;
      version = b.0;
      whole = c.0;
      sum = d.0;
      total = f.0;
      multicast = g.0;
      forwarded = h.0;
      source = i.0;
    }

pub no_cause : (n : ℕ) (bs : List ℕ) → PassesEach n bs → cause_in n bs ≡ None
unfolding cause_in
no_cause n bs p =
    rw (p.long, p.version, p.whole, p.sum, p.total, p.multicast, p.forwarded, p.source) refl

pub between : (low x high : ℕ) → (nat_lt x low || nat_lt high x) ≡ false → (low ≤ x) × (x ≤ high)
between low x high e = grind (arith, nat_tests)

pub not_outside : (low x high : ℕ) → low ≤ x → x ≤ high → (nat_lt x low || nat_lt high x) ≡ false
not_outside low x high l h = grind (arith, nat_tests)

all_six : (a b c d e f : Bool) → a ≡ true → b ≡ true → c ≡ true → d ≡ true → e ≡ true → f ≡ true
    → (a && b && c && d && e && f) ≡ true
all_six a b c d e f p q r s t u = rw (p, q, r, s, t, u) refl

same_numbers : (m n : ℕ) → m ≡ n → (m == n) ≡ true
same_numbers m n e = grind (arith, nat_tests)

-- Bytes that pass each test, as many as their first byte says, are a head.
pub is_head-passes : (bs : List ℕ) (total ttl src dst : ℕ) → PassesEach total bs → length bs ≡ head_length bs
    → two_at bs 2 ≡ total → get_or bs 8 0 ≡ ttl → four_at bs 12 ≡ src → four_at bs 16 ≡ dst
    → is_head bs total ttl src dst ≡ true
unfolding is_head
is_head-passes bs total ttl src dst p long t l s d =
    all_six _ _ _ _ _ _ (rw (no_cause total bs p) refl)
    (same_numbers _ _ long) (same_numbers _ _ t) (same_numbers _ _ l) (same_numbers _ _ s) (same_numbers _ _ d)

-- The head of accepted bytes is among them.
pub head_within : (bs : List ℕ) → cause_in (length bs) bs ≡ None
    → (20 ≤ head_length bs) × (head_length bs ≤ length bs)
head_within bs e = between 20 (head_length bs) (length bs) (passes (length bs) bs e).whole

pub enough : (bs : List ℕ) → cause_in (length bs) bs ≡ None → 20 ≤ length bs
enough bs e = omega (arith, head_within bs e)

-- The total length of accepted bytes holds the head, and is among them.
pub total_within : (bs : List ℕ) → cause_in (length bs) bs ≡ None
    → (head_length bs ≤ two_at bs 2) × (two_at bs 2 ≤ length bs)
total_within bs e =
    between (head_length bs) (two_at bs 2) (length bs) (passes (length bs) bs e).total

pub at_least : (n m : ℕ) → n ≤ m → nat_lt m n ≡ false
at_least n m h = grind (arith, nat_tests)

-- Bytes that begin as accepted bytes do, and are their head's, are a head.
front_is_head : (bs front : List ℕ) → cause_in (length bs) bs ≡ None
    → ((i : ℕ) → i < 20 → get_or front i 0 ≡ get_or bs i 0)
    → length front ≡ head_length bs → take (head_length bs) front ≡ take (head_length bs) bs
    → is_head front (two_at bs 2) (get_or bs 8 0) (four_at bs 12) (four_at bs 16) ≡ true
front_is_head bs front e at long same =
    let p = passes (length bs) bs e in
    let w = between 20 (head_length bs) (length bs) p.whole in
    let t = between (head_length bs) (two_at bs 2) (length bs) p.total in
    let first : get_or front 0 0 ≡ get_or bs 0 0 = at 0 (omega arith) in
    let head : head_length front ≡ head_length bs = ap (λ b. 4 * (b % 16)) first in
    let two : two_at front 2 ≡ two_at bs 2 = rw (at 2 (omega arith), at 3 (omega arith)) refl in
    let src : four_at front 12 ≡ four_at bs 12 =
    rw (at 12 (omega arith), at 13 (omega arith), at 14 (omega arith), at 15 (omega arith)) refl in
    let dst : four_at front 16 ≡ four_at bs 16 =
    rw (at 16 (omega arith), at 17 (omega arith), at 18 (omega arith), at 19 (omega arith)) refl in
    let q : PassesEach (two_at bs 2) front = record {
      long = at_least 20 (two_at bs 2) (omega arith);
      version = subst (λ b. not (b / 16 == 4) ≡ false) (sym first) p.version;
      whole = subst (λ h. (nat_lt h 20 || nat_lt (two_at bs 2) h) ≡ false) (sym head)
          (not_outside 20 (head_length bs) (two_at bs 2) w.0 t.0);
      sum = subst (λ h. not (ones_sum 0 (take h front) == 65535) ≡ false) (sym head)
          (subst (λ h. not (ones_sum 0 h == 65535) ≡ false) (sym same) p.sum);
      total = rw (two, head) (not_outside (head_length bs) (two_at bs 2) (two_at bs 2) t.0 (omega arith));
      multicast = subst (λ a. not (is_multicast a) ≡ false) (sym dst) p.multicast;
      forwarded = subst (λ a. is_link_local a ≡ false) (sym dst) p.forwarded;
      source = subst (λ a. is_bad_source a ≡ false) (sym src) p.source;
    } in
    is_head-passes front _ _ _ _ q (long ∙ sym head) two (at 8 (omega arith)) src dst

pub read_is_head : (bs : List ℕ) → cause_in (length bs) bs ≡ None
    → is_head (take (head_length bs) bs) (two_at bs 2) (get_or bs 8 0) (four_at bs 12) (four_at bs 16) ≡ true
read_is_head bs e =
    let w = head_within bs e in
    front_is_head bs (take (head_length bs) bs) e
    (λ i h. get_or-take (head_length bs) bs i 0 (omega arith))
    (length-take-le (head_length bs) bs w.1)
    (take-take (head_length bs) (head_length bs) bs (omega arith))
