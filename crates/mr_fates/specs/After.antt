-- What one more entry of a history does to the lines of its fates.
use Rattle.std.specs.Prelude.{ℕ, ◌-◌, Bool, true, false, not, nat_lt, List, [], ◌∷◌, fold, filter}
use Rattle.mr_model.specs.declared.ending.Fate.{Fate}
use Rattle.mr_model.specs.declared.ending.Fate.TheVariants.{Released}
use Rattle.mr_model.specs.declared.ending.FateLine.{FateLine}
use Rattle.mr_model.specs.declared.entry.Entry.{Entry}
use Rattle.mr_model.specs.declared.entry.Entry.TheVariants.{Call, Slow, Tick}
use Rattle.mr_model.specs.declared.entry.ReleasedId.{ReleasedId}
use Rattle.mr_model.specs.declared.limits.Limits.{Limits}
use Rattle.mr_model.specs.declared.outcome.Outcome.TheVariants.{Parked}
use Rattle.mr_model.specs.declared.reply.Reply.TheVariants.{Good}
use Rattle.mr_model.specs.declared.request.Request.{Request}
use Rattle.mr_model.specs.declared.request.Request.TheVariants.{Finish, Flush}
use Rattle.mr_model.specs.Fate.{fate_in}
use Rattle.mr_model.specs.Laws.{fate_after}
use Rattle.mr_model.specs.VifList.{has_flag}
use Rattle.mr_model.specs.WaitingList.{Waiter, Awaiting}
use Rattle.mr_fates.specs.Lines.{waiting_line, ended}

-- a line once entry e stands behind the history h: a packet that waited has the fate that e gives
abbrev pub line_after : Limits → List Entry → Entry → FateLine → FateLine
line_after limits h e f = record f { fate = fate_after f.fate (fate_in limits h e f.lane f.index) }

-- the line of the packet that an entry parks
abbrev pub lines_parked : Entry → List FateLine
lines_parked (Slow lane index look flow Parked) = waiting_line lane index ∷ []
lines_parked _ = []

-- the lines once each of these packets, one after another, has this fate
abbrev pub ended_each : Fate → List Waiter → List FateLine → List FateLine
ended_each fate packets lines = fold (λ before w. ended w.lane w.index fate before) lines packets

-- the same of the packets of waiting entries, entry after entry
abbrev pub ended_all : Fate → List Awaiting → List FateLine → List FateLine
ended_all fate waiting lines = fold (λ before a. ended_each fate a.packets before) lines waiting

-- the lines once entry n released these packets, one after another
abbrev pub released_each : ℕ → List ReleasedId → List FateLine → List FateLine
released_each n released lines = fold (λ before r. ended r.lane r.index (Released n) before) lines released

-- the waiting entries that have waited for ten seconds or more at this moment
abbrev pub expired : ℕ → List Awaiting → List Awaiting
expired now waiting = filter (λ a. not (nat_lt (now - a.since) 10000)) waiting

-- whether a request, where it is granted, drops all packets that wait: MRT_DONE does, and
-- MRT_FLUSH with flag 1
abbrev pub drops_all : Request → Bool
drops_all Finish = true
drops_all (Flush bits) = has_flag bits 1
drops_all _ = false

-- an entry that changes no line: it is neither a good call, nor a tick, nor the parking of a packet
abbrev pub is_without_fates : Entry → Bool
is_without_fates (Call d r Good released) = false
is_without_fates (Tick d ms) = false
is_without_fates (Slow lane index look flow Parked) = false
is_without_fates _ = true
