-- How long an accepted head is.
use Rattle.std.proofs.Common.{◌≡◌, ℕ, ◌≤◌, ◌/◌, ◌==◌, ◌&&◌, ◌||◌, not, nat_lt, Bool, true, false, cond, Option, Some, None, is_none, List, length, slice_index, refl, arith}
use Rattle.std.proofs.lemmas.Bool.Decides.{nat_tests}
use Rattle.mr_base.specs.Heads.{is_head, cause_in, head_length}

both : (a b : Bool) → (a && b) ≡ true → (a ≡ true) × (b ≡ true)
both true b e = (refl, e)
both false b e = cc

none_is : {A : Type 0} (o : Option A) → is_none o ≡ true → o ≡ None
none_is None e = refl
none_is (Some x) e = cc

past : {A : Type 0} (b : Bool) (x : A) (o : Option A) → cond b (Some x) o ≡ None → (b ≡ false) × (o ≡ None)
past true x o e = cc
past false x o e = (refl, e)

not_below : (low x high : ℕ) → (nat_lt x low || nat_lt high x) ≡ false → low ≤ x
not_below low x high e = grind (arith, nat_tests)

same : (m n : ℕ) → (m == n) ≡ true → m ≡ n
same m n e = grind (arith, nat_tests)

-- where no cause holds, the head's length is 20 bytes or more
long_enough : (n : ℕ) (bs : List ℕ) → cause_in n bs ≡ None → 20 ≤ head_length bs
unfolding cause_in
long_enough n bs e =
    let short = past (nat_lt n 20) _ _ e in
    let version = past (not (slice_index bs 0 / 16 == 4)) _ _ short.1 in
    let whole = past (nat_lt (head_length bs) 20 || nat_lt n (head_length bs)) _ _ version.1 in
    not_below 20 (head_length bs) n whole.0

-- an accepted head has 20 bytes or more
pub head-longer : (bs : List ℕ) (total ttl src dst : ℕ) → is_head bs total ttl src dst ≡ true → 20 ≤ length bs
unfolding is_head
head-longer bs total ttl src dst e =
    let src = both _ _ e in
    let ttl = both _ _ src.0 in
    let two = both _ _ ttl.0 in
    let size = both _ _ two.0 in
    let whole : (is_none (cause_in total bs) && length bs == head_length bs) ≡ true = size.0 in
    let split = both (is_none (cause_in total bs)) (length bs == head_length bs) whole in
    let enough = long_enough total bs (none_is (cause_in total bs) split.0) in
    let all = same (length bs) (head_length bs) split.1 in
    omega arith
