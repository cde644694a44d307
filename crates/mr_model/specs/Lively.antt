-- The histories of a forwarder that takes the lock only for what is no plain forward.
use Rattle.std.specs.Prelude.{◌≡◌, ◌==◌, ◌&&◌, ◌||◌, Bool, true, false, not, nat_lt, List, [], ◌∷◌, ◌++◌, length, take}
use Rattle.mr_base.specs.declared.numbers.LaneNo.{LaneNo}
use Rattle.mr_model.specs.declared.entry.Entry.{Entry}
use Rattle.mr_model.specs.declared.entry.Entry.TheVariants.{Slow, Settle, EndPhase}
use Rattle.mr_model.specs.declared.limits.Limits.{Limits}
use Rattle.mr_model.specs.Verdict.{verdict, is_plain}
use Rattle.mr_model.specs.Past.{is_of_lane}

-- whether the next entry is a Slow of the lane
abbrev pub slow_follows : LaneNo → List Entry → Bool
slow_follows lane (Slow l index look flow o ∷ h) = l.0 == lane.0
slow_follows lane _ = false

-- whether the lane has no further packet in this phase
abbrev pub is_last_in_phase : LaneNo → List Entry → Bool
is_last_in_phase lane [] = true
is_last_in_phase lane (EndPhase ∷ h) = true
is_last_in_phase lane (e ∷ h) = not (is_of_lane lane e) && is_last_in_phase lane h

-- What a Slow and a Settle owe: the look of a Slow found no plain forward; a Settle of fewer than 64 records stands directly
-- before a Slow of its lane, or no later packet of its lane stands in its phase.
abbrev pub is_lively_at : Limits → List Entry → Entry → List Entry → Bool
is_lively_at limits g (Slow lane index look flow o) h = not (is_plain (verdict limits (take look g) flow.dev flow.src flow.dst flow.ttl))
is_lively_at limits g (Settle lane records) h = not (nat_lt (length records) 64) || slow_follows lane h || is_last_in_phase lane h
is_lively_at limits g _ h = true

abbrev pub lively_from : Limits → List Entry → List Entry → Bool
lively_from limits g [] = true
lively_from limits g (e ∷ h) = is_lively_at limits g e h && lively_from limits (g ++ e ∷ []) h

abbrev pub IsLively : Limits → List Entry → Type 0
IsLively limits h = lively_from limits [] h ≡ true
