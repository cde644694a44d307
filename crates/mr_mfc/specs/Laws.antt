-- Laws of entries whose numbers fall.
use Rattle.std.specs.Prelude.{◌≡◌, ◌<◌, ℕ, Bool, true, Some, List, ◌∷◌, ◌++◌, nat_lt, find, slice_get}
use Rattle.std.specs.List.{list_any, AllByRecursion}
use Rattle.mr_base.specs.declared.route.Route.{Route}
use Rattle.mr_model.specs.RouteList.{has_number, changed_to, change_first, remove_first, routes_left}
use Rattle.mr_mfc.specs.Caches.{is_above, IsFalling}

-- the first entry that passes a test has its number alone
abbrev pub NumberFinds : Type 0
NumberFinds = (test : Route → Bool) (rs : List Route) (r : Route)
    → IsFalling rs → find test rs ≡ Some r → find (has_number r.number) rs ≡ Some r

-- so to change it by its number is to change the first that passes
abbrev pub NumberChanges : Type 0
NumberChanges = (test : Route → Bool) (change : Route → Route) (rs : List Route) (r : Route)
    → IsFalling rs → find test rs ≡ Some r
    → change_first (has_number r.number) change rs ≡ change_first test change rs

-- and to remove it by its number is to remove the first that passes
abbrev pub NumberRemoves : Type 0
NumberRemoves = (test : Route → Bool) (rs : List Route) (r : Route)
    → IsFalling rs → find test rs ≡ Some r
    → remove_first (has_number r.number) rs ≡ remove_first test rs

-- what a test finds is there by its number
abbrev pub NumberThere : Type 0
NumberThere = (test : Route → Bool) (rs : List Route) (r : Route) → find test rs ≡ Some r
    → list_any (has_number r.number) rs ≡ true

abbrev pub InsertFalls : Type 0
InsertFalls = (r : Route) (rs : List Route) → is_above r.number rs ≡ true → IsFalling rs
    → IsFalling (r ∷ rs)

abbrev pub ChangeFalls : Type 0
ChangeFalls = (test : Route → Bool) (parent : ℕ) (ttls : List ℕ) (fixed : Bool) (rs : List Route)
    → IsFalling rs
    → IsFalling (change_first test (changed_to parent ttls fixed) rs)

abbrev pub RemoveFalls : Type 0
RemoveFalls = (test : Route → Bool) (rs : List Route) → IsFalling rs
    → IsFalling (remove_first test rs)

abbrev pub FlushFalls : Type 0
FlushFalls = (loose fixed : Bool) (rs : List Route) → IsFalling rs
    → IsFalling (routes_left loose fixed rs)

-- a number is above those of all entries exactly where it is above each
abbrev pub AboveEach : Type 0
AboveEach = (n : ℕ) (rs : List Route) → is_above n rs ≡ true
    → AllByRecursion (λ r. r.number < n) rs

abbrev pub EachAbove : Type 0
EachAbove = (n : ℕ) (rs : List Route) → AllByRecursion (λ r. r.number < n) rs
    → is_above n rs ≡ true

-- below a number above all stands the first entry
abbrev pub FirstBelow : Type 0
FirstBelow = (n : ℕ) (rs : List Route) → is_above n rs ≡ true
    → find (λ r. nat_lt r.number n) rs ≡ slice_get rs 0

-- below an entry's number stands the entry behind it
abbrev pub NextBelow : Type 0
NextBelow = (front : List Route) (r : Route) (behind : List Route)
    → IsFalling (front ++ r ∷ behind)
    → find (λ x. nat_lt x.number r.number) (front ++ r ∷ behind) ≡ slice_get behind 0
