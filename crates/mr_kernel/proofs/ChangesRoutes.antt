-- What a change makes of the numbers and the moments of the entries.
use Rattle.std.proofs.Common.{◌≡◌, refl, ℕ, ◌<◌, ◌==◌, ◌||◌, Bool, true, false, if◌then◌else◌}
use Rattle.std.proofs.Common.{Option, Some, IsSome, List, [], ◌∷◌, arith}
use Rattle.std.proofs.lemmas.Grind.{common_steps}
use Rattle.std.specs.List.{list_any, AllByRecursion}
use Rattle.mr_base.specs.declared.route.Route.{Route}
use Rattle.mr_model.specs.Messages.{Attempt}
use Rattle.mr_model.specs.RouteList.{has_number, changed_to, change_first, remove_first}
use Rattle.mr_mfc.specs.Caches.{is_above}
use Rattle.mr_history.specs.Journals as journal
use Rattle.mr_history.specs.Journals.{remove_number}
use Rattle.mr_history.specs.Numbers.{numbers_of, value_of, without_value, AreBelow}
use Rattle.mr_kernel.specs.Holding.{numbers}
use Rattle.mr_kernel.specs.Standing.{moments}

-- a number is that of an entry where it is among their numbers
pub number_there : (n : ℕ) (rs : List Route)
    → journal.has_number (numbers rs) n ≡ list_any (has_number n) rs
number_there n [] = refl
number_there n (r ∷ rs) = grind (arith, common_steps, number_there n rs)

-- a number above those of all entries is none of theirs
pub above_absent : (n : ℕ) (rs : List Route) → is_above n rs ≡ true
    → journal.has_number (numbers rs) n ≡ false
above_absent n [] above = refl
above_absent n (r ∷ rs) above = grind (arith, common_steps, above_absent n rs)

-- and above all that are kept
pub above_kept : (n : ℕ) (ps : List (ℕ × Option ℕ)) (rs : List Route)
    → numbers_of ps ≡ numbers rs → AllByRecursion (λ r. r.number < n) rs → AreBelow n ps
above_kept n [] rs same each = tt
above_kept n (p ∷ ps) [] same each = absurd cc
above_kept n (p ∷ ps) (r ∷ rs) same each =
    let head : p.0 ≡ r.number = cc in
    let tail : numbers_of ps ≡ numbers rs = cc in
    (omega (arith, each.0), above_kept n ps rs tail each.1)

-- a number that is kept has a value
pub value_there : (n : ℕ) (ps : List (ℕ × Option ℕ))
    → journal.has_number (numbers_of ps) n ≡ true → IsSome (value_of ps n)
value_there n [] there = absurd cc
value_there n (p ∷ ps) there = by (p.0 == n) there (value_there n ps)
  where
    by : (b : Bool) → (b || journal.has_number (numbers_of ps) n) ≡ true
        → (journal.has_number (numbers_of ps) n ≡ true → IsSome (value_of ps n))
        → IsSome (if b then Some p.1 else value_of ps n)
    by true there more = refl
    by false there more = more there

-- without an entry
pub numbers_without : (n : ℕ) (rs : List Route)
    → remove_number (numbers rs) n ≡ numbers (remove_first (has_number n) rs)
numbers_without n [] = refl
numbers_without n (r ∷ rs) = grind (arith, common_steps, numbers_without n rs)

pub kept_without : (n : ℕ) (ps : List (ℕ × Option ℕ))
    → numbers_of (without_value ps n) ≡ remove_number (numbers_of ps) n
kept_without n [] = refl
kept_without n (p ∷ ps) = grind (arith, common_steps, kept_without n ps)

pub moments_without : (made : List Attempt) (n : ℕ) (rs : List Route)
    → without_value (moments made rs) n ≡ moments made (remove_first (has_number n) rs)
moments_without made n [] = refl
moments_without made n (r ∷ rs) = grind (arith, common_steps, moments_without made n rs)

-- an entry that changes keeps its number
pub numbers_changed : (test : Route → Bool) (parent : ℕ) (ttls : List ℕ) (fixed : Bool)
    (rs : List Route) → numbers (change_first test (changed_to parent ttls fixed) rs) ≡ numbers rs
numbers_changed test parent ttls fixed [] = refl
numbers_changed test parent ttls fixed (r ∷ rs) =
    grind (arith, common_steps, numbers_changed test parent ttls fixed rs)

pub moments_changed : (made : List Attempt) (test : Route → Bool) (parent : ℕ) (ttls : List ℕ)
    (fixed : Bool) (rs : List Route)
    → moments made (change_first test (changed_to parent ttls fixed) rs) ≡ moments made rs
moments_changed made test parent ttls fixed [] = refl
moments_changed made test parent ttls fixed (r ∷ rs) =
    grind (arith, common_steps, moments_changed made test parent ttls fixed rs)
