-- The first entry that passes a test, by its place.
use Rattle.std.proofs.Common.{◌≡◌, ◌∙◌, refl, sym, ap, ℕ, suc, ◌+◌, ◌<◌, ◌≤◌, nat_lt, Some, None, Bool, true, false, not, cond, if◌then◌else◌, List, [], ◌∷◌, length, get_or, set, arith}
use Rattle.std.proofs.lemmas.Bool.{ltb-true}
use Rattle.std.proofs.lemmas.Grind.{common_steps}
use Rattle.std.proofs.lemmas.Option.{same_Some}
use Rattle.std.specs.List.{position, position_or_len, remove}
use Rattle.mr_base.specs.declared.route.Route.{Route}
use Rattle.mr_model.specs.RouteList.{change_first, remove_first}

pub place_is : {X : Type 0} (test : X → Bool) (xs : List X) (i : ℕ) → position test xs ≡ Some i → i ≡ position_or_len test xs
place_is test xs i found = by (nat_lt (position_or_len test xs) (length xs)) found
  where
    by : (b : Bool) → cond b (Some (position_or_len test xs)) None ≡ Some i → i ≡ position_or_len test xs
    by true found = sym (same_Some _ _ found)
    by false found = absurd cc

pub place_within : {X : Type 0} (test : X → Bool) (xs : List X) (i : ℕ) → position test xs ≡ Some i → position_or_len test xs < length xs
place_within test xs i found = by (nat_lt (position_or_len test xs) (length xs)) refl found
  where
    by : (b : Bool) → nat_lt (position_or_len test xs) (length xs) ≡ b → cond b (Some (position_or_len test xs)) None ≡ Some i → position_or_len test xs < length xs
    by true is found = ltb-true _ _ is
    by false is found = absurd cc

pub place_none : {X : Type 0} (test : X → Bool) (xs : List X) → position test xs ≡ None → length xs ≤ position_or_len test xs
place_none test xs found = by (nat_lt (position_or_len test xs) (length xs)) refl found
  where
    by : (b : Bool) → nat_lt (position_or_len test xs) (length xs) ≡ b → cond b (Some (position_or_len test xs)) None ≡ None → length xs ≤ position_or_len test xs
    by true is found = absurd cc
    by false is found = grind (arith, common_steps)

remove_place : (test : Route → Bool) (xs : List Route) → position_or_len test xs < length xs → remove xs (position_or_len test xs) ≡ remove_first test xs
remove_place test [] within = absurd (omega arith)
remove_place test (x ∷ xs) within = by (test x) (remove_place test xs) within
  where
    by : (b : Bool) → (position_or_len test xs < length xs → remove xs (position_or_len test xs) ≡ remove_first test xs) →
        cond (not b) (1 + position_or_len test xs) 0 < length (x ∷ xs) →
        remove (x ∷ xs) (cond (not b) (1 + position_or_len test xs) 0) ≡ (if b then xs else x ∷ remove_first test xs)
    by true more within = refl
    by false more within =
        let next : 1 + position_or_len test xs ≡ suc (position_or_len test xs) = omega arith in
        rw next (ap (λ ys. x ∷ ys) (more (omega (arith, within))))

pub remove_at : (test : Route → Bool) (xs : List Route) (i : ℕ) → position test xs ≡ Some i → remove xs i ≡ remove_first test xs
remove_at test xs i found = rw (place_is test xs i found) (remove_place test xs (place_within test xs i found))

change_place : (test : Route → Bool) (change : Route → Route) (xs : List Route) (d : Route) → position_or_len test xs < length xs →
    set xs (position_or_len test xs) (change (get_or xs (position_or_len test xs) d)) ≡ change_first test change xs
change_place test change [] d within = absurd (omega arith)
change_place test change (x ∷ xs) d within = by (test x) (change_place test change xs d) within
  where
    by : (b : Bool) → (position_or_len test xs < length xs →
        set xs (position_or_len test xs) (change (get_or xs (position_or_len test xs) d)) ≡ change_first test change xs) →
        cond (not b) (1 + position_or_len test xs) 0 < length (x ∷ xs) →
        set (x ∷ xs) (cond (not b) (1 + position_or_len test xs) 0) (change (get_or (x ∷ xs) (cond (not b) (1 + position_or_len test xs) 0) d))
        ≡ (if b then change x ∷ xs else x ∷ change_first test change xs)
    by true more within = refl
    by false more within =
        let next : 1 + position_or_len test xs ≡ suc (position_or_len test xs) = omega arith in
        rw next (ap (λ ys. x ∷ ys) (more (omega (arith, within))))

changed : (test : Route → Bool) (change : Route → Route) (xs : List Route) (i : ℕ) (d : Route) → position test xs ≡ Some i → set xs i (change (get_or xs i d)) ≡ change_first test change xs
changed test change xs i d found = rw (place_is test xs i found) (change_place test change xs d (place_within test xs i found))

pub change_at : (test : Route → Bool) (change : Route → Route) (xs : List Route) (i : ℕ) (d : Route) → position test xs ≡ Some i → d ≡ get_or xs i d → set xs i (change d) ≡ change_first test change xs
change_at test change xs i d found there = ap (λ (r : Route). set xs i (change r)) there ∙ changed test change xs i d found

remove_past : (test : Route → Bool) (xs : List Route) → length xs ≤ position_or_len test xs → remove_first test xs ≡ xs
remove_past test [] none = refl
remove_past test (x ∷ xs) none = by (test x) (remove_past test xs) none
  where
    by : (b : Bool) → (length xs ≤ position_or_len test xs → remove_first test xs ≡ xs) → length (x ∷ xs) ≤ cond (not b) (1 + position_or_len test xs) 0 → (if b then xs else x ∷ remove_first test xs) ≡ x ∷ xs
    by true more none = absurd (omega (arith, none))
    by false more none = ap (λ ys. x ∷ ys) (more (omega (arith, none)))

change_past : (test : Route → Bool) (change : Route → Route) (xs : List Route) → length xs ≤ position_or_len test xs → change_first test change xs ≡ xs
change_past test change [] none = refl
change_past test change (x ∷ xs) none = by (test x) (change_past test change xs) none
  where
    by : (b : Bool) → (length xs ≤ position_or_len test xs → change_first test change xs ≡ xs) → length (x ∷ xs) ≤ cond (not b) (1 + position_or_len test xs) 0 → (if b then change x ∷ xs else x ∷ change_first test change xs) ≡ x ∷ xs
    by true more none = absurd (omega (arith, none))
    by false more none = ap (λ ys. x ∷ ys) (more (omega (arith, none)))

pub remove_none : (test : Route → Bool) (xs : List Route) → position test xs ≡ None → xs ≡ remove_first test xs
remove_none test xs found = sym (remove_past test xs (place_none test xs found))

pub change_none : (test : Route → Bool) (change : Route → Route) (xs : List Route) → position test xs ≡ None → xs ≡ change_first test change xs
change_none test change xs found = sym (change_past test change xs (place_none test xs found))
