-- What a history keeps of a packet, and what agrees with it.
use Rattle.std.specs.Prelude.{◌≡◌, ℕ, ◌==◌, ◌&&◌, Bool, if◌then◌else◌, Option, Some, None, List}
use Rattle.std.specs.Prelude.{[], ◌∷◌}
use Rattle.std.specs.List.{AllByRecursion}
use Rattle.mr_base.specs.declared.head.Head.{Head}
use Rattle.mr_base.specs.declared.numbers.LaneNo.{LaneNo}
use Rattle.mr_fates.specs.Lines.{waiting_line}
use Rattle.mr_model.specs.declared.ending.FateLine.{FateLine}
use Rattle.mr_model.specs.declared.entry.Entry.{Entry}
use Rattle.mr_model.specs.declared.entry.Entry.TheVariants.{Slow}
use Rattle.mr_model.specs.declared.entry.ReleasedId.{ReleasedId}
use Rattle.mr_model.specs.declared.flow.Flow.{Flow}
use Rattle.mr_model.specs.declared.outcome.Outcome.{Outcome}
use Rattle.mr_model.specs.declared.outcome.Outcome.TheVariants.{Parked}
use Rattle.mr_model.specs.declared.packet.Freed.{Freed}
use Rattle.mr_model.specs.declared.packet.Packet.{Packet}
use Rattle.mr_upcall.specs.declared.upcall.Upcall.{Upcall}

-- the flow in the Slow of a packet
abbrev pub slow_flow : List Entry → LaneNo → ℕ → Option Flow
slow_flow [] lane index = None
slow_flow (Slow l i look flow o ∷ h) lane index =
    if l.0 == lane.0 && i == index then Some flow else slow_flow h lane index
slow_flow (e ∷ h) lane index = slow_flow h lane index

-- the flow of a packet that came in on a device
abbrev pub flow_by : ℕ → Head → Flow
flow_by dev head = record {
  dev = dev;
  src = head.src;
  dst = head.dst;
  ttl = head.ttl;
  length = head.length;
}

abbrev pub flow_of : Packet → Flow
flow_of p = flow_by p.dev p.head

-- a packet agrees with the flow in its Slow
abbrev pub IsKnown : List Entry → Packet → Type 0
IsKnown h p = slow_flow h p.lane p.index ≡ Some (flow_of p)

-- a head agrees with the flow in the Slow of its packet, which came in on some device
pub record IsHeadOf (h : List Entry) (lane : LaneNo) (index : ℕ) (head : Head) : Type 0 where
  pub dev : ℕ
  pub known : slow_flow h lane index ≡ Some (flow_by dev head)

-- the name of a freed packet and its outcome, as the history keeps them
abbrev pub id_of : Freed → ReleasedId
id_of f = record { lane = f.packet.lane; index = f.packet.index; outcome = f.outcome }

-- each report's head agrees with the Slow of its packet
abbrev pub AreHeads : List Entry → List Upcall → Type 0
AreHeads h us = AllByRecursion (λ u. IsHeadOf h u.id.lane u.id.index u.head) us

-- each packet agrees with its Slow
abbrev pub AreKnown : List Entry → List Packet → Type 0
AreKnown h ps = AllByRecursion (IsKnown h) ps

-- a packet comes back but where it waits
abbrev pub back_by : Outcome → Packet → Option Packet
back_by Parked p = None
back_by o p = Some p

-- each packet's head agrees with its Slow
abbrev pub AreOwnHeads : List Entry → List Packet → Type 0
AreOwnHeads h ps = AllByRecursion (λ p. IsHeadOf h p.lane p.index p.head) ps

-- the line of fates that a decided packet begins
abbrev pub begun : LaneNo → ℕ → Outcome → List FateLine
begun lane index Parked = waiting_line lane index ∷ []
begun lane index o = []
