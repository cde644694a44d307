-- The fates that an entry gives, in a state.
use Rattle.std.specs.Prelude.{ℕ, ◌+◌, ◌&&◌, Bool, true, false, not, if◌then◌else◌, Option, Some}
use Rattle.std.specs.Prelude.{None, List, [], ◌∷◌}
use Rattle.mr_base.specs.declared.numbers.LaneNo.{LaneNo}
use Rattle.mr_model.specs.declared.ending.Fate.{Fate}
use Rattle.mr_model.specs.declared.ending.Fate.TheVariants.{Released, Expired, Flushed, Waiting}
use Rattle.mr_model.specs.declared.ending.FateLine.{FateLine}
use Rattle.mr_model.specs.declared.entry.Entry.{Entry}
use Rattle.mr_model.specs.declared.entry.Entry.TheVariants.{Call, Slow, Tick}
use Rattle.mr_model.specs.declared.outcome.Outcome.TheVariants.{Parked}
use Rattle.mr_model.specs.declared.reply.Reply.TheVariants.{Good}
use Rattle.mr_model.specs.declared.request.Request.{Request}
use Rattle.mr_model.specs.declared.request.Request.TheVariants.{Finish, Flush}
use Rattle.mr_model.specs.Fate.{names}
use Rattle.mr_model.specs.Laws.{fate_after}
use Rattle.mr_model.specs.State.{State}
use Rattle.mr_model.specs.VifList.{has_flag}
use Rattle.mr_model.specs.WaitingList.{is_waiting, unexpired}

-- whether a request, where it is granted, drops all packets that wait: MRT_DONE does, and
-- MRT_FLUSH with flag 1
abbrev pub drops_all : Request → Bool
drops_all Finish = true
drops_all (Flush bits) = has_flag bits 1
drops_all _ = false

-- the fate that an entry gives to a packet, in the state before it
abbrev pub fate_by : State → Entry → LaneNo → ℕ → Option Fate
fate_by s (Call d r Good released) lane index =
    if names released lane index then Some (Released (s.count + 1))
    else (if drops_all r && is_waiting s.waiting lane index
    then Some (Flushed (s.count + 1)) else None)
fate_by s (Tick d ms) lane index =
    if is_waiting s.waiting lane index
    && not (is_waiting (unexpired (s.now + ms) s.waiting) lane index)
    then Some (Expired (s.count + 1)) else None
fate_by s e lane index = None

-- calls and ticks alone give fates
abbrev pub gives_fates : Entry → Bool
gives_fates (Call d r reply released) = true
gives_fates (Tick d ms) = true
gives_fates e = false

abbrev pub line_by : State → Entry → FateLine → FateLine
line_by s e f = record f { fate = fate_after f.fate (fate_by s e f.lane f.index) }

-- the line of the packet that an entry parks
abbrev pub parked_lines : Entry → List FateLine
parked_lines (Slow lane index look flow Parked) =
    record { lane = lane; index = index; fate = Waiting } ∷ []
parked_lines _ = []
