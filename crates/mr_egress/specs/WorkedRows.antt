-- Egress traces of worked histories.
use Rattle.std.specs.Prelude.{ℕ, ◌+◌, ◌*◌, ◌==◌, true, Some, if◌then◌else◌, List, [], ◌∷◌, ◌++◌, map}
use Rattle.mr_base.specs.declared.numbers.Addr.{Addr}
use Rattle.mr_load.specs.Dues.{Due, LaneValue}
use Rattle.mr_model.specs.declared.entry.Entry.{Entry}
use Rattle.mr_model.specs.declared.entry.Entry.TheVariants.{Call, Slow, Settle, EndPhase}
use Rattle.mr_model.specs.declared.entry.FastRecord.{FastRecord}
use Rattle.mr_model.specs.declared.flow.Flow.{Flow}
use Rattle.mr_model.specs.declared.limits.Limits.{Limits}
use Rattle.mr_model.specs.declared.outcome.Outcome.{Outcome}
use Rattle.mr_model.specs.declared.outcome.Outcome.TheVariants.{Forward, Register, Parked}
use Rattle.mr_model.specs.declared.reply.Reply.TheVariants.{Good}
use Rattle.mr_model.specs.declared.request.Request.{Request}
use Rattle.mr_model.specs.declared.request.Request.TheVariants.{Init, AddVif, DelVif, AddMfc}
use Rattle.mr_model.specs.Ending.{indexes}

abbrev addr : ℕ → ℕ → ℕ → ℕ → Addr
addr a b c d = record { 0 = ((a * 256 + b) * 256 + c) * 256 + d }

-- two devices, one admin daemon, and one lane with three packets
abbrev pub limits : Limits
limits = record {
  entries = 8;
  unresolved = 4;
  controls = 16;
  phases = 2;
  packets = 3 ∷ [];
  admins = true ∷ [];
  devices = record { addr = addr 10 0 0 1 } ∷ record { addr = addr 10 0 1 1 } ∷ [];
}

-- behind the head of each packet
abbrev body : List ℕ
body = 3 ∷ 232 ∷ 3 ∷ 233 ∷ 0 ∷ 8 ∷ 0 ∷ 0 ∷ []

-- from 10.0.0.9 to 239.1.1.1 with ident 1, and to 239.1.1.2 with ident 2, by TTL and the first byte of the checksum
abbrev first_head : ℕ → ℕ → List ℕ
first_head ttl sum =
    69 ∷ 0 ∷ 0 ∷ 28 ∷ 0 ∷ 1 ∷ 0 ∷ 0 ∷ ttl ∷ 17 ∷ sum ∷ 197 ∷ 10 ∷ 0 ∷ 0 ∷ 9 ∷ 239 ∷ 1 ∷ 1 ∷ 1 ∷ []

abbrev second_head : ℕ → ℕ → List ℕ
second_head ttl sum =
    69 ∷ 0 ∷ 0 ∷ 28 ∷ 0 ∷ 2 ∷ 0 ∷ 0 ∷ ttl ∷ 17 ∷ sum ∷ 195 ∷ 10 ∷ 0 ∷ 0 ∷ 9 ∷ 239 ∷ 1 ∷ 1 ∷ 2 ∷ []

-- as they are sent on
abbrev pub first_sent : List ℕ
first_sent = first_head 1 191 ++ body

abbrev pub second_sent : List ℕ
second_sent = second_head 1 191 ++ body

abbrev due : ℕ → ℕ → List ℕ → Due
due index dev bytes = record { phase = 0; index = index; dev = dev; bytes = bytes }

abbrev lane_of : List Due → List LaneValue
lane_of dues = record { lane = record { 0 = 1 }; packets = dues } ∷ []

-- the first packet with three bytes behind its total length, and the second; both came in on a device
abbrev pub lanes_on : ℕ → List LaneValue
lanes_on dev =
    lane_of (due 1 dev (first_head 2 190 ++ body ++ 7 ∷ 7 ∷ 7 ∷ []) ∷ due 2 dev (second_head 2 190 ++ body) ∷ [])

abbrev pub lanes : List LaneValue
lanes = lanes_on 1

abbrev flow_on : ℕ → ℕ → Flow
flow_on dev last = record { dev = dev; src = addr 10 0 0 9; dst = addr 239 1 1 last; ttl = 2; length = 28 }

abbrev good : Request → Entry
good r = Call (record { 0 = 1 }) r Good []

abbrev add_vif : ℕ → ℕ → ℕ → Entry
add_vif i flags local = good (AddVif (record { vif = i; flags = flags; local = local }))

-- threshold 1 for these two vifs
abbrev asked : ℕ → ℕ → ℕ → ℕ
asked a b i = if i == a then 1 else (if i == b then 1 else 0)

-- an entry for 10.0.0.9 and 239.1.1.`last`
abbrev entry_for : ℕ → ℕ → ℕ → ℕ → Request
entry_for last parent a b =
    AddMfc (record { src = addr 10 0 0 9; dst = addr 239 1 1 last; parent = parent; ttls = map (asked a b) indexes })

abbrev opening : List Entry
opening = good Init ∷ add_vif 0 8 1 ∷ add_vif 1 8 2 ∷ []

abbrev slow : ℕ → ℕ → Flow → Outcome → Entry
slow index look flow o = Slow (record { 0 = 1 }) index look flow o

abbrev fast : ℕ → FastRecord
fast look = record {
  index = 1;
  look = look;
  entry = 4;
  input = Some 0;
  outs = record { 0 = 2 };
  flow = flow_on 1 1;
}

-- One packet goes out on one vif, with and without the lock.
abbrev one_entry : List Entry
one_entry = opening ++ good (entry_for 1 0 1 1) ∷ EndPhase ∷ []

abbrev pub one_packet : List Entry
one_packet = one_entry ++ slow 1 5 (flow_on 1 1) (Forward 4 (Some 0) (record { 0 = 2 })) ∷ EndPhase ∷ []

abbrev pub one_settled : List Entry
one_settled = one_entry ++ Settle (record { 0 = 1 }) (fast 5 ∷ []) ∷ EndPhase ∷ []

-- Two vifs are on the first device, and the packet, which came in on the second, goes out on both.
abbrev pub two_vifs : List Entry
two_vifs =
    opening ++ add_vif 2 8 1 ∷ good (entry_for 1 1 0 2)
    ∷ slow 1 5 (flow_on 2 1) (Forward 5 (Some 1) (record { 0 = 5 })) ∷ []

-- One of the two outputs is the register vif.
abbrev pub register : List Entry
register =
    opening ++ add_vif 2 4 0 ∷ good (entry_for 1 0 1 2)
    ∷ slow 1 5 (flow_on 1 1) (Register 5 (Some 0) (record { 0 = 6 }) true) ∷ []

-- The first packet waits, the second goes out, and then a call releases the first.
abbrev pub released : List Entry
released =
    opening ++ good (entry_for 2 0 1 1)
    ∷ slow 1 4 (flow_on 1 1) Parked
    ∷ slow 2 5 (flow_on 1 2) (Forward 4 (Some 0) (record { 0 = 2 }))
    ∷ Call (record { 0 = 1 }) (entry_for 1 0 1 1) Good
    (record { lane = record { 0 = 1 }; index = 1; outcome = Forward 7 (Some 0) (record { 0 = 2 }) } ∷ []) ∷ []

-- A packet is settled after its vif was made again, on another device: it went out by the former one.
abbrev pub settled_late : List Entry
settled_late =
    opening ++ good (entry_for 1 0 1 1) ∷ good (DelVif 1) ∷ add_vif 1 8 1
    ∷ Settle (record { 0 = 1 }) (fast 4 ∷ []) ∷ []

-- the header of a file
abbrev pub header : List ℕ
header =
    212 ∷ 195 ∷ 178 ∷ 161 ∷ 2 ∷ 0 ∷ 4 ∷ 0 ∷ 0 ∷ 0 ∷ 0 ∷ 0 ∷ 0 ∷ 0 ∷ 0 ∷ 0
    ∷ 255 ∷ 255 ∷ 0 ∷ 0 ∷ 228 ∷ 0 ∷ 0 ∷ 0 ∷ []

-- a record of 28 bytes
abbrev pub record_with : List ℕ → List ℕ
record_with bytes =
    0 ∷ 0 ∷ 0 ∷ 0 ∷ 0 ∷ 0 ∷ 0 ∷ 0 ∷ 28 ∷ 0 ∷ 0 ∷ 0 ∷ 28 ∷ 0 ∷ 0 ∷ 0 ∷ [] ++ bytes
