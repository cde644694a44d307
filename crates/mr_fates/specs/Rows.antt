-- Lines and waiting entries on which the words are evaluated.
use Rattle.std.specs.Prelude.{ℕ, List, [], ◌∷◌}
use Rattle.mr_base.specs.declared.numbers.DaemonNo.{DaemonNo}
use Rattle.mr_model.specs.declared.ending.Fate.{Fate}
use Rattle.mr_model.specs.declared.ending.FateLine.{FateLine}
use Rattle.mr_model.specs.declared.entry.Entry.{Entry}
use Rattle.mr_model.specs.declared.entry.Entry.TheVariants.{Call, Tick}
use Rattle.mr_model.specs.declared.reply.Reply.TheVariants.{Good, Value}
use Rattle.mr_model.specs.declared.request.Request.TheVariants.{Init, GetPim}
use Rattle.mr_model.specs.WaitingList.{Awaiting}
use Rattle.mr_fates.specs.declared.lane.Place.{Place}
use Rattle.mr_fates.specs.Lines.{waiting_line}
use Rattle.mr_laws.specs.Rows.{lane, from, waits, released}

-- the line of a packet of lane l
abbrev pub line : ℕ → ℕ → Fate → FateLine
line l index fate = record { lane = lane l; index = index; fate = fate }

-- packets 3 and 8 of lane 1 and, between them, packet 5 of lane 2
abbrev pub three : List FateLine
three = waiting_line (lane 1) 3 ∷ waiting_line (lane 2) 5 ∷ waiting_line (lane 1) 8 ∷ []

abbrev pub place : ℕ → ℕ → Place
place index at = record { index = index; line = at }

-- packet 3 of lane 1 waits since moment 0, packet 8 since moment 1
abbrev pub two : List Awaiting
two = waits 1 0 (from 1 3 ∷ []) ∷ waits 2 1 (from 2 8 ∷ []) ∷ []

abbrev pub daemon : DaemonNo
daemon = record { 0 = 1 }

-- a good call that releases packet 3 of lane 1
abbrev pub call : Entry
call = Call daemon Init Good (released 3 ∷ [])

abbrev pub asking : Entry
asking = Call daemon GetPim (Value 0) []

abbrev pub tick : Entry
tick = Tick daemon 5
