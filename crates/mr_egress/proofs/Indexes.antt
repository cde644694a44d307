-- A packet by its index, where indexes rise.
use Rattle.std.proofs.Common.{◌≡◌, refl, ℕ, zero, suc, ◌+◌, ◌<◌, ◌≤◌, Some, None, List, [], ◌∷◌, length, find, take, drop, slice_get, arith, add-one, eq-eqb, inl, inr}
use Rattle.std.proofs.lemmas.Bool.{ne_eqb, cases_lt}
use Rattle.std.specs.List.{AllByRecursion}
use Rattle.mr_load.specs.Dues.{Due, RiseFrom}
use Rattle.mr_egress.specs.Copies.{is_due}
use Rattle.mr_egress.proofs.Listing.{some_same}

abbrev pub IsBelow : ℕ → Due → Type 0
IsBelow t d = d.index < t

abbrev pub IsAbove : ℕ → Due → Type 0
IsAbove t d = t < d.index

-- what stands at a place within
pub at_place : (ds : List Due) (i : ℕ) → i < length ds → (d : Due) × (slice_get ds i ≡ Some d)
at_place [] i within = absurd (omega arith)
at_place (d ∷ ds) zero within = (d, refl)
at_place (d ∷ ds) (suc i) within = at_place ds i (omega (arith, within))

-- each index is above the one from which they rise
above_start : (n k : ℕ) (ds : List Due) (i : ℕ) (d : Due) → RiseFrom n k ds → slice_get ds i ≡ Some d → n < d.index
above_start n k [] i d rise is = absurd cc
above_start n k (e ∷ ds) zero d rise is =
    let same : e ≡ d = some_same e d is in
    let first : n < e.index = rise.0 in
    rw (← same) first
above_start n k (e ∷ ds) (suc i) d rise is =
    let first : n < e.index = rise.0 in
    let more : e.index < d.index = above_start e.index e.phase ds i d rise.2 is in
    omega (arith, first, more)

below_suc : (t n k : ℕ) (ds : List Due) (i : ℕ) (d : Due) → RiseFrom n k ds → slice_get ds i ≡ Some d → d.index < t
    → AllByRecursion (IsBelow t) (take (suc i) ds)
below_suc t n k [] i d rise is less = absurd cc
below_suc t n k (e ∷ ds) zero d rise is less =
    let same : e ≡ d = some_same e d is in
    (rw same less, tt)
below_suc t n k (e ∷ ds) (suc i) d rise is less =
    let more : e.index < d.index = above_start e.index e.phase ds i d rise.2 is in
    (omega (arith, more, less), below_suc t e.index e.phase ds i d rise.2 is less)

-- where the packet at a place has a lesser index, so have those before it
pub all_below : (t n k : ℕ) (ds : List Due) (i : ℕ) (d : Due) → RiseFrom n k ds → slice_get ds i ≡ Some d → d.index < t
    → AllByRecursion (IsBelow t) (take (i + 1) ds)
all_below t n k ds i d rise is less = rw add-one (below_suc t n k ds i d rise is less)

all_behind : (t n k : ℕ) (ds : List Due) → RiseFrom n k ds → t ≤ n → AllByRecursion (IsAbove t) ds
all_behind t n k [] rise least = tt
all_behind t n k (d ∷ ds) rise least =
    let first : n < d.index = rise.0 in
    (omega (arith, first, least), all_behind t d.index d.phase ds rise.2 (omega (arith, first, least)))

-- where it has a greater one, so have those behind it
pub all_above : (t n k : ℕ) (ds : List Due) (i : ℕ) (d : Due) → RiseFrom n k ds → slice_get ds i ≡ Some d → t < d.index
    → AllByRecursion (IsAbove t) (drop i ds)
all_above t n k [] i d rise is more = absurd cc
all_above t n k (e ∷ ds) zero d rise is more =
    let same : e ≡ d = some_same e d is in
    let first : t < e.index = rw same more in
    (first, all_behind t e.index e.phase ds rise.2 (omega (arith, first)))
all_above t n k (e ∷ ds) (suc i) d rise is more = all_above t e.index e.phase ds i d rise.2 is more

none_above : (t : ℕ) (ds : List Due) → AllByRecursion (IsAbove t) ds → find (is_due t) ds ≡ None
none_above t [] all = refl
none_above t (d ∷ ds) all =
    let more : t < d.index = all.0 in
    rw (ne_eqb d.index t (λ same. omega (arith, more, same))) (none_above t ds all.1)

-- where those up to a place have lesser indexes, and those from there on greater ones, none has it
pub none_between : (t : ℕ) (ds : List Due) (low high : ℕ) → AllByRecursion (IsBelow t) (take low ds)
    → AllByRecursion (IsAbove t) (drop high ds) → high ≤ low → find (is_due t) ds ≡ None
none_between t [] low high below above met = refl
none_between t (d ∷ ds) zero zero below above met = none_above t (d ∷ ds) above
none_between t (d ∷ ds) zero (suc high) below above met = absurd (omega (arith, met))
none_between t (d ∷ ds) (suc low) zero below above met = none_above t (d ∷ ds) above
none_between t (d ∷ ds) (suc low) (suc high) below above met =
    let less : d.index < t = below.0 in
    rw (ne_eqb d.index t (λ same. omega (arith, less, same)))
    (none_between t ds low high below.1 above (omega (arith, met)))

-- the packet that has the index is the first one
pub found : (t n k : ℕ) (ds : List Due) (i : ℕ) (d : Due) → RiseFrom n k ds → slice_get ds i ≡ Some d → d.index ≡ t
    → find (is_due t) ds ≡ slice_get ds i
found t n k [] i d rise is same = absurd cc
found t n k (e ∷ ds) zero d rise is same =
    let this : e ≡ d = some_same e d is in
    let index : e.index ≡ t = rw this same in
    rw (eq-eqb e.index t index) refl
found t n k (e ∷ ds) (suc i) d rise is same =
    let more : e.index < d.index = above_start e.index e.phase ds i d rise.2 is in
    rw (ne_eqb e.index t (λ met. omega (arith, more, met, same))) (found t e.index e.phase ds i d rise.2 is same)

-- an index that is neither the one nor below it
pub strictly : (t p d : ℕ) → p ≡ d → t ≤ p → (p ≡ t → ⊥) → t < d
strictly t p d same least other = elim (cases_lt t p) [
  | inl less ↦ omega (arith, same, less)
  | inr most ↦ absurd (other (omega (arith, least, most)))
]
