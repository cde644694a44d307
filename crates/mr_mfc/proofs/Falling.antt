-- Entries whose numbers fall.
use Rattle.std.proofs.Common.{◌≡◌, ◌++◌, refl, ℕ, ◌<◌, ◌≤◌, length, if◌then◌else◌, Bool, true, false, slice_index_or, Option, Some, None, IfSome, List, [], ◌∷◌, nat_lt, find, filter, arith}
use Rattle.std.proofs.lemmas.Grind.{common_steps}
use Rattle.std.specs.List.{list_any}
use Rattle.mr_base.specs.declared.route.Route.{Route}
use Rattle.mr_model.specs.RouteList.{has_number, changed_to, change_first, remove_first}
use Rattle.mr_mfc.specs.Caches.{is_above, IsFalling}
use Rattle.mr_mfc.specs.Laws.{NumberFinds, NumberChanges, NumberRemoves, NumberThere, InsertFalls, ChangeFalls, RemoveFalls, FlushFalls, AboveEach, EachAbove, FirstBelow, NextBelow}

pub above_each : AboveEach
above_each n [] above = tt
above_each n (r ∷ rs) above = grind (arith, common_steps, above_each n rs)

pub each_above : EachAbove
each_above n [] each = refl
each_above n (r ∷ rs) each = grind (arith, common_steps, each_above n rs each.1)

-- a higher number is above too
pub above_more : (m n : ℕ) (rs : List Route) → m < n → is_above m rs ≡ true → is_above n rs ≡ true
above_more m n [] less above = refl
above_more m n (r ∷ rs) less above = grind (arith, common_steps, above_more m n rs less)

-- the first entry has the highest number
pub above_first : (n : ℕ) (rs : List Route) (d : Route) → 1 ≤ length rs → IsFalling rs → nat_lt (slice_index_or rs 0 d).number n ≡ is_above n rs
above_first n [] d some falls = absurd (omega arith)
above_first n (r ∷ rs) d some falls = grind (arith, common_steps, above_more r.number n rs, falls.0)

-- an entry that is found is below what is above all
pub found_below : (n : ℕ) (test : Route → Bool) (rs : List Route) (r : Route) → is_above n rs ≡ true → find test rs ≡ Some r → r.number < n
found_below n test [] r above is = absurd cc
found_below n test (x ∷ rs) r above is = grind (arith, common_steps, found_below n test rs r)

pub number_there : NumberThere
number_there test [] r is = absurd cc
number_there test (x ∷ rs) r is = grind (arith, common_steps, number_there test rs r)

pub there_if_some : (test : Route → Bool) (rs : List Route) → IfSome (find test rs) (λ r. list_any (has_number r.number) rs ≡ true)
there_if_some test rs = by (find test rs) (number_there test rs)
  where
    by : (o : Option Route) → ((r : Route) → o ≡ Some r → list_any (has_number r.number) rs ≡ true) → IfSome o (λ r. list_any (has_number r.number) rs ≡ true)
    by None there = tt
    by (Some r) there = there r refl

pub number_finds : NumberFinds
number_finds test [] r falls is = absurd cc
number_finds test (x ∷ rs) r falls is = grind (arith, common_steps, number_finds test rs r falls.1, found_below x.number test rs r falls.0)

pub number_changes : NumberChanges
number_changes test change [] r falls is = absurd cc
number_changes test change (x ∷ rs) r falls is =
    grind (arith, common_steps, number_changes test change rs r falls.1, found_below x.number test rs r falls.0)

pub number_removes : NumberRemoves
number_removes test [] r falls is = absurd cc
number_removes test (x ∷ rs) r falls is = grind (arith, common_steps, number_removes test rs r falls.1, found_below x.number test rs r falls.0)

pub insert_falls : InsertFalls
insert_falls r rs above falls = (above, falls)

-- what is above all entries is above them when one has changed
pub above_changed : (n : ℕ) (test : Route → Bool) (parent : ℕ) (ttls : List ℕ) (fixed : Bool) (rs : List Route) →
    is_above n (change_first test (changed_to parent ttls fixed) rs) ≡ is_above n rs
above_changed n test parent ttls fixed [] = refl
above_changed n test parent ttls fixed (r ∷ rs) = grind (arith, common_steps, above_changed n test parent ttls fixed rs)

pub change_falls : ChangeFalls
change_falls test parent ttls fixed [] falls = tt
change_falls test parent ttls fixed (r ∷ rs) falls = by (test r) (change_falls test parent ttls fixed rs falls.1)
  where
    by : (b : Bool) → IsFalling (change_first test (changed_to parent ttls fixed) rs)
        → IsFalling (if b then changed_to parent ttls fixed r ∷ rs else r ∷ change_first test (changed_to parent ttls fixed) rs)
    by true more = falls
    by false more = (rw (above_changed r.number test parent ttls fixed rs) falls.0, more)

-- and when one is removed
pub above_removed : (n : ℕ) (test : Route → Bool) (rs : List Route) → is_above n rs ≡ true → is_above n (remove_first test rs) ≡ true
above_removed n test [] above = refl
above_removed n test (r ∷ rs) above = grind (arith, common_steps, above_removed n test rs)

pub remove_falls : RemoveFalls
remove_falls test [] falls = tt
remove_falls test (r ∷ rs) falls = by (test r) (remove_falls test rs falls.1)
  where
    by : (b : Bool) → IsFalling (remove_first test rs) → IsFalling (if b then rs else r ∷ remove_first test rs)
    by true more = falls.1
    by false more = (above_removed r.number test rs falls.0, more)

-- and when some are left
pub above_filter : (n : ℕ) (test : Route → Bool) (rs : List Route) → is_above n rs ≡ true → is_above n (filter test rs) ≡ true
above_filter n test [] above = refl
above_filter n test (r ∷ rs) above = grind (arith, common_steps, above_filter n test rs)

pub filter_falls : (test : Route → Bool) (rs : List Route) → IsFalling rs → IsFalling (filter test rs)
filter_falls test [] falls = tt
filter_falls test (r ∷ rs) falls = by (test r) (filter_falls test rs falls.1)
  where
    by : (b : Bool) → IsFalling (filter test rs) → IsFalling (if b then r ∷ filter test rs else filter test rs)
    by true more = (above_filter r.number test rs falls.0, more)
    by false more = more

pub flush_falls : FlushFalls
flush_falls loose fixed rs falls = filter_falls _ rs falls

-- an entry is below what is above all
above_within : (n : ℕ) (front : List Route) (r : Route) (behind : List Route) → is_above n (front ++ r ∷ behind) ≡ true → r.number < n
above_within n [] r behind above = grind (arith, common_steps)
above_within n (x ∷ front) r behind above = grind (arith, common_steps, above_within n front r behind)

pub first_below : FirstBelow
first_below n [] above = refl
first_below n (r ∷ rs) above = grind (arith, common_steps)

pub next_below : NextBelow
next_below [] r behind falls = grind (arith, common_steps, first_below r.number behind falls.0)
next_below (x ∷ front) r behind falls =
    grind (arith, common_steps, next_below front r behind falls.1, above_within x.number front r behind falls.0)
