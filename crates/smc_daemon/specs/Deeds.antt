-- What a daemon did in a history, as its routing machine sees it.
use Rattle.std.specs.Prelude.{ℕ, ◌==◌, ◌&&◌, if◌then◌else◌, Option, Some, None, option_map}
use Rattle.std.specs.Prelude.{List, [], ◌∷◌, ◌++◌, flat_map}
use Rattle.mr_base.specs.declared.numbers.Addr.{Addr}
use Rattle.mr_base.specs.declared.numbers.LaneNo.{LaneNo}
use Rattle.mr_model.specs.Deeds.{Deed, Asked, Received, Ticked}
use Rattle.mr_model.specs.declared.entry.Entry.{Entry}
use Rattle.mr_model.specs.declared.entry.Entry.TheVariants.{Call, Slow, Tick, Recv}
use Rattle.mr_model.specs.declared.flow.Flow.{Flow}
use Rattle.mr_model.specs.declared.message.MessageId.{MessageId}
use Rattle.mr_model.specs.declared.message.Told.{Told}

-- the flow in the Slow of a packet
abbrev pub slow_flow : List Entry → LaneNo → ℕ → Option Flow
slow_flow [] lane index = None
slow_flow (Slow l i look flow o ∷ h) lane index =
    if l.0 == lane.0 && i == index then Some flow else slow_flow h lane index
slow_flow (e ∷ h) lane index = slow_flow h lane index

abbrev pub no_address : Addr
no_address = record { 0 = 0 }

-- A report has the addresses of its packet's flow.
abbrev pub told_by : MessageId → Option Flow → Told
told_by m (Some flow) = record { kind = m.kind; vif = m.vif; src = flow.src; dst = flow.dst }
told_by m None = record { kind = m.kind; vif = m.vif; src = no_address; dst = no_address }

-- a report, whose packet has a Slow in the history
abbrev pub told : List Entry → MessageId → Told
told h m = told_by m (slow_flow h m.lane m.index)

-- what an entry is to a daemon; nothing where it is not its own
abbrev pub deeds_in : ℕ → List Entry → Entry → List Deed
deeds_in d h (Call c r reply released) = if c.0 == d then Asked r reply ∷ [] else []
deeds_in d h (Tick c ms) = if c.0 == d then Ticked ms ∷ [] else []
deeds_in d h (Recv c message) =
    if c.0 == d then Received (option_map (told h) message) ∷ [] else []
deeds_in d h e = []

-- what a daemon did in a part of a history, behind what stands before it
abbrev pub did : ℕ → List Entry → List Entry → List Deed
did d before part = flat_map (deeds_in d (before ++ part)) part
