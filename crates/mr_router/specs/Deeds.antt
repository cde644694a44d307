-- What a daemon did, as a routing program sees it.
use Rattle.std.specs.Prelude.{◌≡◌, ℕ, ◌-◌, Option, Some, None, List, [], ◌∷◌, flat_map}
use Rattle.std.specs.List.{AllByRecursion}
use Rattle.mr_base.specs.declared.numbers.Addr.{Addr}
use Rattle.mr_kernel.specs.Flows.{slow_flow}
use Rattle.mr_model.specs.declared.entry.Entry.{Entry}
use Rattle.mr_model.specs.declared.entry.Entry.TheVariants.{Call, Tick, Recv}
use Rattle.mr_model.specs.declared.flow.Flow.{Flow}
use Rattle.mr_model.specs.declared.limits.Limits.{Limits}
use Rattle.mr_model.specs.declared.message.MessageId.{MessageId}
use Rattle.mr_model.specs.declared.message.Told.{Told}
use Rattle.mr_model.specs.Deeds.{Deed, Asked, Received, Ticked}
use Rattle.mr_model.specs.Past.{controls}
use Rattle.mr_authors.specs.Authors.{own, daemon_author}
use Rattle.mr_router.specs.Callers.{DaemonValue}

abbrev pub no_address : Addr
no_address = record { 0 = 0 }

-- A report has the addresses of its packet's flow.
abbrev pub told_by : MessageId → Option Flow → Told
told_by m (Some flow) = record { kind = m.kind; vif = m.vif; src = flow.src; dst = flow.dst }
told_by m None = record { kind = m.kind; vif = m.vif; src = no_address; dst = no_address }

-- a report, whose packet has a Slow in the history
abbrev pub told : List Entry → MessageId → Told
told h m = told_by m (slow_flow h m.lane m.index)

abbrev pub told_of : List Entry → Option MessageId → Option Told
told_of h (Some m) = Some (told h m)
told_of h None = None

-- what an entry is to the daemon that made it
abbrev pub deeds_in : List Entry → Entry → List Deed
deeds_in h (Call d r reply released) = Asked r reply ∷ []
deeds_in h (Recv d message) = Received (told_of h message) ∷ []
deeds_in h (Tick d ms) = Ticked ms ∷ []
deeds_in h e = []

-- what a daemon did: its own entries
abbrev pub deeds : DaemonValue → List Deed
deeds d = flat_map (deeds_in d.seen) (own (daemon_author d.daemon.0) d.seen)

-- how many control entries are left in what a daemon has seen
abbrev pub controls_left : Limits → DaemonValue → ℕ
controls_left limits d = limits.controls - controls d.seen

-- the packet of a report that was received has a Slow in the history
abbrev pub IsHeard : List Entry → Entry → Type 0
IsHeard h (Recv d (Some m)) = (flow : Flow) × (slow_flow h m.lane m.index ≡ Some flow)
IsHeard h e = Unit {0}

abbrev pub AllHeard : List Entry → List Entry → Type 0
AllHeard h es = AllByRecursion (IsHeard h) es
