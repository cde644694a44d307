-- The packets of a lane, each with its phase and its bytes.
use Rattle.std.specs.Prelude.{◌≡◌, ℕ, ◌+◌, ◌==◌, ◌<◌, ◌≤◌, is_none, if◌then◌else◌, Some, None, List, [], ◌∷◌, ◌++◌, map}
use Rattle.std.specs.List.{AllByRecursion}
use Rattle.mr_base.specs.AcceptedHeads.{IsHeadOf}
use Rattle.mr_base.specs.Heads.{cause_of}
use Rattle.mr_base.specs.Outside.{Files}
use Rattle.mr_base.specs.declared.head.Head.{Head}
use Rattle.mr_base.specs.declared.numbers.LaneNo.{LaneNo}
use Rattle.mr_load.specs.Items.{Content, contents_of, items_by, numbered}
use Rattle.mr_load.specs.Made.{Sent, flow_of, items_of}
use Rattle.mr_model.specs.declared.flow.Flow.{Flow}
use Rattle.mr_model.specs.declared.packet.Packet.{Packet}
use Rattle.mr_scenario.specs.declared.scenario.Given.{Given}
use Rattle.mr_scenario.specs.declared.scenario.Item.{Item}
use Rattle.mr_scenario.specs.declared.scenario.Phase.{Phase}
use Rattle.mr_scenario.specs.declared.scenario.Scenario.{Scenario}

-- a packet that a lane is to send
pub record Due : Type 0 where
  -- counted from 0
  pub phase : ℕ
  -- its item number in the lane, from 1
  pub index : ℕ
  pub dev : ℕ
  -- the item's; they begin with an accepted head
  pub bytes : List ℕ

-- a lane and its packets, in their order
pub record LaneValue : Type 0 where
  pub lane : LaneNo
  pub packets : List Due

-- as a history names it
abbrev pub sent_of : Due → Sent
sent_of d = record { index = d.index; flow = flow_of d.dev d.bytes }

-- the flow of a head that came in on a device
abbrev pub flow_by : ℕ → Head → Flow
flow_by dev head = record {
  dev = dev;
  src = head.src;
  dst = head.dst;
  ttl = head.ttl;
  length = head.length;
}

-- This is the whole packet, which the lane is to send.
pub record IsPacketOf (lane : LaneNo) (p : Packet) (d : Due) : Type 0 where
  pub lane_is : p.lane ≡ lane
  pub index : p.index ≡ d.index
  pub dev : p.dev ≡ d.dev
  pub head : IsHeadOf p.head d.bytes
  pub flow : flow_by p.dev p.head ≡ flow_of d.dev d.bytes

-- Each index is greater than the one before, the first than n; no phase is less, the first not less than k.
abbrev pub RiseFrom : ℕ → ℕ → List Due → Type 0
RiseFrom n k [] = Unit {0}
RiseFrom n k (d ∷ ds) = (n < d.index) × (k ≤ d.phase) × RiseFrom d.index d.phase ds

-- It stands before a packet with this index in this phase.
abbrev pub IsBefore : ℕ → ℕ → Due → Type 0
IsBefore n k d = (d.index < n) × (d.phase ≤ k)

abbrev pub IsAccepted : Due → Type 0
IsAccepted d = cause_of d.bytes ≡ None

-- what is true of the packets of every lane
pub record AreDue (ds : List Due) : Type 0 where
  pub accepted : AllByRecursion IsAccepted ds
  pub rise : RiseFrom 0 0 ds

-- one packet more, behind the others
abbrev pub with_due : LaneValue → Due → LaneValue
with_due v d = record { lane = v.lane; packets = v.packets ++ d ∷ [] }

-- an item of a line in phase k as a packet, by its number and what it brings; none where that is no IPv4, or its head is refused
abbrev pub due_of : ℕ → Item → ℕ → Content → List Due
due_of k i n None = []
due_of k i n (Some bs) = if is_none (cause_of bs) then record { phase = k; index = n; dev = i.dev; bytes = bs } ∷ [] else []

-- the packets of a lane in phases, of which the first is phase k, behind the lines of the phases before
abbrev pub dues_by : (Given → List Content) → ℕ → ℕ → List Item → List Phase → List Due
dues_by contents lane k before [] = []
dues_by contents lane k before (p ∷ ps) =
    numbered (due_of k) contents lane (items_by contents lane before + 1) p.items
    ++ dues_by contents lane (k + 1) (before ++ p.items) ps

-- the packets of a lane among lines of phase k, of whose items the lane's first has number n
abbrev pub dues_among : Files → ℕ → ℕ → ℕ → List Item → List Due
dues_among files lane k n is = numbered (due_of k) (contents_of files) lane n is

-- the packets of a lane in phase k, behind the lines of the phases before
abbrev pub dues_in : Files → ℕ → ℕ → List Item → Phase → List Due
dues_in files lane k before p = dues_among files lane k (items_of files lane before + 1) p.items

-- the same in phases, of which the first is phase k
abbrev pub dues_from : Files → ℕ → ℕ → List Item → List Phase → List Due
dues_from files lane k before ps = dues_by (contents_of files) lane k before ps

abbrev pub lane_by : (Given → List Content) → Scenario → ℕ → LaneValue
lane_by contents s lane = record { lane = record { 0 = lane }; packets = dues_by contents lane 0 [] s.phases }

-- a lane of a scenario
abbrev pub lane_of : Files → Scenario → ℕ → LaneValue
lane_of files s lane = lane_by (contents_of files) s lane
