-- A worked history: one entry of each kind.
use Rattle.std.specs.Prelude.{ℕ, false, Some, None, List, [], ◌∷◌}
use Rattle.mr_base.specs.declared.numbers.DaemonNo.{DaemonNo}
use Rattle.mr_base.specs.declared.numbers.LaneNo.{LaneNo}
use Rattle.mr_lines.specs.Fit.{no_flow}
use Rattle.mr_model.specs.declared.entry.Entry.{Entry}
use Rattle.mr_model.specs.declared.entry.Entry.TheVariants.{Call, Slow, Settle, Tick, Recv, EndPhase}
use Rattle.mr_model.specs.declared.entry.FastRecord.{FastRecord}
use Rattle.mr_model.specs.declared.flow.Flow.{Flow}
use Rattle.mr_model.specs.declared.limits.Limits.{Limits}
use Rattle.mr_model.specs.declared.outcome.Cause.TheVariants.{NoVif}
use Rattle.mr_model.specs.declared.outcome.Outcome.TheVariants.{Parked, Dropped}
use Rattle.mr_model.specs.declared.reply.Reply.TheVariants.{Good}
use Rattle.mr_model.specs.declared.request.Request.TheVariants.{Init}
use Rattle.mr_one_text.specs.Turns.{Turn, Called, Slowed, Settled, Ticked, Received, Ended}

abbrev pub daemon : ℕ → DaemonNo
daemon n = record { 0 = n }

abbrev pub lane : ℕ → LaneNo
lane n = record { 0 = n }

-- a packet of 28 bytes from 10.0.0.9 to 239.1.1.1
abbrev pub flow : Flow
flow = record { dev = 1; src = record { 0 = 167772169 }; dst = record { 0 = 4009820417 }; ttl = 9; length = 28 }

abbrev pub passed : ℕ → ℕ → Flow → FastRecord
passed index look f = record { index = index; look = look; entry = 4; input = Some 0; outs = record { 0 = 2 }; flow = f }

-- its slow packet with a look and a flow, and its settled ones with the same flow
abbrev pub history_of : ℕ → Flow → List Entry
history_of look f =
    Call (daemon 1) Init Good []
    ∷ Slow (lane 1) 1 look f Parked
    ∷ Settle (lane 2) (passed 1 0 f ∷ passed 3 2 f ∷ [])
    ∷ Tick (daemon 2) 500
    ∷ Recv (daemon 1) None
    ∷ EndPhase ∷ []

abbrev pub history : List Entry
history = history_of 0 flow

abbrev pub without_flows : List Entry
without_flows = history_of 0 no_flow

abbrev pub other_look : List Entry
other_look = history_of 1 flow

abbrev pub history_turns : List Turn
history_turns = Called (daemon 1) ∷ Slowed (lane 1) 0 ∷ Settled (lane 2) (0 ∷ 2 ∷ []) ∷ Ticked (daemon 2) ∷ Received (daemon 1) ∷ Ended ∷ []

-- a history that takes all the room there is
abbrev pub full_limits : Limits
full_limits = record { entries = 1; unresolved = 1; controls = 1; phases = 1; packets = 1 ∷ []; admins = false ∷ []; devices = [] }

-- its packet comes on a device without a vif
abbrev pub full : List Entry
full = Slow (lane 1) 1 0 flow (Dropped NoVif) ∷ Tick (daemon 1) 500 ∷ EndPhase ∷ []
