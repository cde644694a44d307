-- Who acts in which order, and with which looks: all that a legal history of a scenario is free to choose.
use Rattle.std.specs.Prelude.{ℕ, List, map}
use Rattle.std.specs.List.{AllByRecursion}
use Rattle.mr_base.specs.declared.numbers.DaemonNo.{DaemonNo}
use Rattle.mr_base.specs.declared.numbers.LaneNo.{LaneNo}
use Rattle.mr_lines.specs.Fit.{Fits64}
use Rattle.mr_model.specs.declared.entry.Entry.{Entry}
use Rattle.mr_model.specs.declared.entry.Entry.TheVariants.{Call, Slow, Settle, Tick, Recv, EndPhase}

pub data Turn : Type 0 where
  -- a daemon makes a call
  Called : DaemonNo → Turn
  -- a packet of a lane is decided under the lock, with this look
  Slowed : LaneNo → ℕ → Turn
  -- packets of a lane are counted, with these looks
  Settled : LaneNo → List ℕ → Turn
  -- a daemon lets time pass
  Ticked : DaemonNo → Turn
  -- a daemon asks for a report
  Received : DaemonNo → Turn
  -- a phase ends
  Ended : Turn

abbrev pub turn_of : Entry → Turn
turn_of (Call d request reply released) = Called d
turn_of (Slow lane index look flow o) = Slowed lane look
turn_of (Settle lane records) = Settled lane (map (λ r. r.look) records)
turn_of (Tick d ms) = Ticked d
turn_of (Recv d message) = Received d
turn_of EndPhase = Ended

abbrev pub turns : List Entry → List Turn
turns h = map turn_of h

-- the numbers of a turn have at most 64 bits
abbrev pub TurnFits : Turn → Type 0
TurnFits (Called d) = Fits64 d.0
TurnFits (Slowed lane look) = Fits64 lane.0 × Fits64 look
TurnFits (Settled lane looks) = Fits64 lane.0 × AllByRecursion Fits64 looks
TurnFits (Ticked d) = Fits64 d.0
TurnFits (Received d) = Fits64 d.0
TurnFits Ended = Unit {0}

abbrev pub TurnsFit : List Entry → Type 0
TurnsFit h = AllByRecursion (λ e. TurnFits (turn_of e)) h
