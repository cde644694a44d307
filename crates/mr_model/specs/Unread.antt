-- The reports that the owner has not read (ipmr.c, ipmr_cache_report): what was pushed since the last good MRT_DONE, less what
-- receives took from its front.
use Rattle.std.specs.Prelude.{◌-◌, ◌&&◌, Bool, true, false, is_some, nat_lt, if◌then◌else◌, Some, List, [], ◌∷◌, ◌++◌, length, take, drop, fold, flat_map, count_by}
use Rattle.mr_model.specs.declared.entry.Entry.{Entry}
use Rattle.mr_model.specs.declared.entry.Entry.TheVariants.{Call, Slow, Recv}
use Rattle.mr_model.specs.declared.limits.Limits.{Limits}
use Rattle.mr_model.specs.declared.message.MessageId.{MessageId}
use Rattle.mr_model.specs.declared.outcome.Outcome.TheVariants.{Forward, Register, Wrong, Parked, Dropped}
use Rattle.mr_model.specs.declared.reply.Reply.TheVariants.{Good}
use Rattle.mr_model.specs.declared.request.Request.TheVariants.{Finish}
use Rattle.mr_model.specs.State.{State, state, granted, told_by_parked}
use Rattle.mr_model.specs.Messages.{told_by}

-- the reports that entry e pushes in a state
abbrev pub pushed_by : Limits → State → Entry → List MessageId
pushed_by limits s (Slow lane index look flow Parked) = told_by_parked s lane index flow
pushed_by limits s (Slow lane index look flow (Forward entry input outs)) =
    told_by s.tables.vifs lane index (Forward entry input outs)
pushed_by limits s (Slow lane index look flow (Register entry input outs told)) =
    told_by s.tables.vifs lane index (Register entry input outs told)
pushed_by limits s (Slow lane index look flow (Wrong entry vif report)) =
    told_by s.tables.vifs lane index (Wrong entry vif report)
pushed_by limits s (Slow lane index look flow (Dropped cause)) =
    told_by s.tables.vifs lane index (Dropped cause)
pushed_by limits s (Call d r Good released) = flat_map (λ x. told_by (granted limits s d r).tables.vifs x.lane x.index x.outcome) released
pushed_by limits s _ = []

-- the reports that the entries h push behind the history g
abbrev pub pushed : Limits → List Entry → List Entry → List MessageId
pushed limits g [] = []
pushed limits g (e ∷ h) = pushed_by limits (state limits g) e ++ pushed limits (g ++ e ∷ []) h

abbrev pub is_finish : Entry → Bool
is_finish (Call d Finish Good released) = true
is_finish _ = false

-- the entries behind the last good MRT_DONE
abbrev pub behind_finish : List Entry → List Entry
behind_finish h = fold (λ behind e. if is_finish e then [] else behind ++ e ∷ []) [] h

-- the entries up to it
abbrev pub up_to_finish : List Entry → List Entry
up_to_finish h = take (length h - length (behind_finish h)) h

-- a receive that took a report
abbrev pub is_taking : Entry → Bool
is_taking (Recv d (Some message)) = true
is_taking _ = false

abbrev pub unread : Limits → List Entry → List MessageId
unread limits h = drop (count_by is_taking (behind_finish h)) (pushed limits (up_to_finish h) (behind_finish h))

-- A report is lost where there is no owner or 64 are unread.
abbrev pub accepts_in : State → Bool
accepts_in s = is_some s.owner && nat_lt (length s.unread) 64

abbrev pub accepts : Limits → List Entry → Bool
accepts limits h = accepts_in (state limits h)
