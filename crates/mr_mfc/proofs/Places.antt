-- The first place that passes is that of the first entry that passes.
use Rattle.std.proofs.Common.{◌≡◌, refl, ap, ℕ, suc, ◌+◌, ◌<◌, Some, Bool, true, false, not, cond, if◌then◌else◌, List, [], ◌∷◌, length, get_or, slice_set, arith}
use Rattle.std.proofs.lemmas.Grind.{common_steps}
use Rattle.std.specs.List.{list_any, position, position_or_len, remove}
use Rattle.mr_base.specs.declared.route.Route.{Route}
use Rattle.mr_model.specs.RouteList.{change_first, remove_first}

pub remove_at : (test : Route → Bool) (xs : List Route) → position_or_len test xs < length xs → remove xs (position_or_len test xs) ≡ remove_first test xs
remove_at test [] within = absurd (omega arith)
remove_at test (x ∷ xs) within = by (test x) (remove_at test xs) within
  where
    by : (b : Bool) → (position_or_len test xs < length xs → remove xs (position_or_len test xs) ≡ remove_first test xs) →
        cond (not b) (1 + position_or_len test xs) 0 < length (x ∷ xs) →
        remove (x ∷ xs) (cond (not b) (1 + position_or_len test xs) 0) ≡ (if b then xs else x ∷ remove_first test xs)
    by true more within = refl
    by false more within =
        let next : 1 + position_or_len test xs ≡ suc (position_or_len test xs) = omega arith in
        rw next (ap (λ ys. x ∷ ys) (more (omega (arith, within))))

pub change_at : (test : Route → Bool) (change : Route → Route) (xs : List Route) (d : Route) → position_or_len test xs < length xs →
    slice_set xs (position_or_len test xs) (change (get_or xs (position_or_len test xs) d)) ≡ change_first test change xs
change_at test change [] d within = absurd (omega arith)
change_at test change (x ∷ xs) d within = by (test x) (change_at test change xs d) within
  where
    by : (b : Bool) → (position_or_len test xs < length xs →
        slice_set xs (position_or_len test xs) (change (get_or xs (position_or_len test xs) d)) ≡ change_first test change xs) →
        cond (not b) (1 + position_or_len test xs) 0 < length (x ∷ xs) →
        slice_set (x ∷ xs) (cond (not b) (1 + position_or_len test xs) 0) (change (get_or (x ∷ xs) (cond (not b) (1 + position_or_len test xs) 0) d))
        ≡ (if b then change x ∷ xs else x ∷ change_first test change xs)
    by true more within = refl
    by false more within =
        let next : 1 + position_or_len test xs ≡ suc (position_or_len test xs) = omega arith in
        rw next (ap (λ ys. x ∷ ys) (more (omega (arith, within))))

-- where an entry passes, the first place that passes is one of the list's
pub place_within : (test : Route → Bool) (xs : List Route) → list_any test xs ≡ true → position_or_len test xs < length xs
place_within test [] there = absurd cc
place_within test (x ∷ xs) there = grind (arith, common_steps, place_within test xs)

pub place_found : (test : Route → Bool) (xs : List Route) → list_any test xs ≡ true → position test xs ≡ Some (position_or_len test xs)
place_found test xs there = grind (arith, common_steps, place_within test xs there)

-- the first place that passes, and the entry that stands there, for a change
pub change_place : (test : Route → Bool) (change : Route → Route) (xs : List Route) (i : ℕ) (r : Route) → i ≡ position_or_len test xs → i < length xs →
    r ≡ get_or xs i r → slice_set xs i (change r) ≡ change_first test change xs
change_place test change xs i r is within there =
    rw there (rw is (change_at test change xs r (rw is at within)))
