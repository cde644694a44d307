-- What a lane did last, and the last end of a phase, lie within the history.
use Rattle.std.proofs.Common.{ℕ, ◌+◌, ◌-◌, ◌≤◌, Bool, true, false, if◌then◌else◌, List, [], ◌∷◌}
use Rattle.std.proofs.Common.{length, take, arith}
use Rattle.std.proofs.lemmas.List.{length-take}
use Rattle.mr_base.specs.declared.numbers.LaneNo.{LaneNo}
use Rattle.mr_model.specs.declared.entry.Entry.{Entry}
use Rattle.mr_model.specs.Past.{last_from, last_own, last_end, own_before_slow, ends_short}
use Rattle.mr_model.specs.Past.{is_of_lane, is_end}

-- a number of an entry is at most the last one's
last_within : (test : Entry → Bool) (before n : ℕ) (h : List Entry) → before ≤ n
    → last_from test before (n + 1) h ≤ n + length h
last_within test before n [] small = omega (arith, small)
last_within test before n (e ∷ h) small =
    by (test e) (last_within test (n + 1) (n + 1) h (omega arith))
    (last_within test before (n + 1) h (omega (arith, small)))
  where
    by : (b : Bool) → last_from test (n + 1) (n + 1 + 1) h ≤ n + 1 + length h
        → last_from test before (n + 1 + 1) h ≤ n + 1 + length h
        → last_from test (if b then n + 1 else before) (n + 1 + 1) h ≤ n + length (e ∷ h)
    by true passes fails = omega (arith, passes)
    by false passes fails = omega (arith, fails)

pub own_within : (lane : LaneNo) (h : List Entry) → last_own lane h ≤ length h
own_within lane h = omega (arith, last_within (is_of_lane lane) 0 0 h (omega arith))

pub end_within : (h : List Entry) → last_end h ≤ length h
end_within h = omega (arith, last_within is_end 0 0 h (omega arith))

pub before_slow_within : (lane : LaneNo) (h : List Entry) → own_before_slow lane h ≤ length h
before_slow_within lane h = by (ends_short lane h)
  where
    former : List Entry
    former = take (length h - 1) h

    by : (b : Bool) → (if b then last_own lane former else last_own lane h) ≤ length h
    by true = omega (arith, own_within lane former, length-take (length h - 1) h)
    by false = own_within lane h
