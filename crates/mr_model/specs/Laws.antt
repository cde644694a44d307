-- Words that the laws of the definitions use.
use Rattle.std.specs.Prelude.{◌==◌, Bool, true, false, nat_lt, if◌then◌else◌, Option, unwrap_or, List, length, fold}
use Rattle.mr_base.specs.declared.numbers.LaneNo.{LaneNo}
use Rattle.mr_model.specs.declared.ending.Fate.{Fate}
use Rattle.mr_model.specs.declared.ending.Fate.TheVariants.{Waiting}
use Rattle.mr_model.specs.declared.entry.Entry.{Entry}
use Rattle.mr_model.specs.declared.entry.Entry.TheVariants.{Slow, Settle, EndPhase}

-- The fate after one more entry, which may give one: a packet that waits no longer keeps its own.
abbrev pub fate_after : Fate → Option Fate → Fate
fate_after Waiting next = unwrap_or next Waiting
fate_after fate next = fate

-- an entry that keeps fast records
abbrev pub is_settle : Entry → Bool
is_settle (Settle lane records) = true
is_settle _ = false

-- an entry of no lane: a call, a tick, a receive or the end of a phase
abbrev pub is_of_no_lane : Entry → Bool
is_of_no_lane (Slow lane index look flow o) = false
is_of_no_lane (Settle lane records) = false
is_of_no_lane _ = true

-- what one more entry makes of whether the lane is left short
abbrev pub short_after : LaneNo → Bool → Entry → Bool
short_after lane before EndPhase = false
short_after lane before (Settle l records) = if l.0 == lane.0 then nat_lt (length records) 64 else before
short_after lane before (Slow l index look flow o) = if l.0 == lane.0 then false else before
short_after lane before _ = before

-- whether the lane's last entry in the present phase is a Settle of fewer than 64 records
abbrev pub is_left_short : LaneNo → List Entry → Bool
is_left_short lane h = fold (short_after lane) false h
