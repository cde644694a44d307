-- The waiting list: its entries, and the machine's waiting list that they stand for (ipmr.c,
-- ipmr_cache_unresolved, ipmr_cache_resolve and ipmr_expire_process).
use Rattle.std.specs.Prelude.{ℕ, ◌-◌, ◌≤◌, Bool, true, false, Result, Ok, Err, nat_lt, if◌then◌else◌, Option, Some, None, List, [], ◌∷◌, ◌++◌, length, map, find, sum_by}
use Rattle.std.specs.List.{AllByRecursion}
use Rattle.mr_base.specs.declared.numbers.Addr.{Addr}
use Rattle.mr_model.specs.declared.packet.Packet.{Packet}
use Rattle.mr_model.specs.WaitingList.{Waiter, Awaiting, is_awaiting, awaiting_of}
use Rattle.mr_unres.specs.declared.unresolved.TheConstants.{MOST_PACKETS, EXPIRY_MS}
use Rattle.mr_unres.specs.declared.room.ParkError.{ParkError}
use Rattle.mr_unres.specs.declared.room.ParkError.TheVariants as refused
use Rattle.mr_unres.specs.declared.room.Room.{Room}
use Rattle.mr_unres.specs.declared.room.Room.TheVariants.{PacketsFull, Join, EntriesFull, New}
use Rattle.mr_unres.specs.declared.unresolved.Unresolved.{Unresolved}

-- the entries in the order of their making, and how many there may be
pub record WaitingEntries : Type 0 where
  pub entries : List Unresolved
  pub limit : ℕ

-- a packet as the machine's definitions see it: with its flow, and without the rest of its head
abbrev pub waiter_of : Packet → Waiter
waiter_of p = record {
  lane = p.lane;
  index = p.index;
  flow = record {
    dev = p.dev;
    src = p.head.src;
    dst = p.head.dst;
    ttl = p.head.ttl;
    length = p.head.length;
  };
}

-- the waiting entry of the machine that an entry stands for
abbrev pub awaiting_by : Unresolved → Awaiting
awaiting_by e = record {
  src = e.src;
  dst = e.dst;
  since = e.since;
  packets = map waiter_of e.packets;
}

-- the machine's waiting list that a list of entries stands for
abbrev pub awaiting : List Unresolved → List Awaiting
awaiting entries = map awaiting_by entries

-- whether an entry is that of a source and group
abbrev pub is_for : Addr → Addr → Unresolved → Bool
is_for src dst e = is_awaiting src dst (awaiting_by e)

-- the room for one more packet where its entry is there: four packets are the most
abbrev pub room_at : ℕ → ℕ → Option Awaiting → Room
room_at count limit (Some a) = if nat_lt (length a.packets) MOST_PACKETS then Join else PacketsFull
room_at count limit None = if nat_lt count limit then New else EntriesFull

-- the room for one more packet of a source and group
abbrev pub room_in : List Awaiting → ℕ → Addr → Addr → Room
room_in waiting limit src dst = room_at (length waiting) limit (awaiting_of waiting src dst)

-- the entry that a packet makes
abbrev pub entry_at : ℕ → Packet → Unresolved
entry_at now p = record { src = p.head.src; dst = p.head.dst; since = now; packets = p ∷ [] }

-- an entry with one more packet, the newest
abbrev pub with_packet : Packet → Unresolved → Unresolved
with_packet p e = record e { packets = e.packets ++ p ∷ [] }

-- an entry once a packet joined that of its source and group
abbrev pub joined : Packet → Unresolved → Unresolved
joined p e = if is_for p.head.src p.head.dst e then with_packet p e else e

-- the packets of an entry, if there is one
abbrev pub packets_in : Option Unresolved → List Packet
packets_in None = []
packets_in (Some e) = e.packets

-- the packets of a source and group, oldest first
abbrev pub packets_for : List Unresolved → Addr → Addr → List Packet
packets_for entries src dst = packets_in (find (is_for src dst) entries)

-- whether an entry is younger than ten seconds at this moment
abbrev pub is_young : ℕ → Unresolved → Bool
is_young now e = nat_lt (now - e.since) EXPIRY_MS

-- how many packets wait
abbrev pub packet_count : List Unresolved → ℕ
packet_count entries = sum_by (λ e. length e.packets) entries

-- the list with these entries
abbrev pub with_entries : WaitingEntries → List Unresolved → WaitingEntries
with_entries w entries = record w { entries = entries }

-- what parking answers by the room there was: whether the entry is new, or the packet back
abbrev pub answer_by : Room → Packet → Result Bool (Packet × ParkError)
answer_by New p = Ok true
answer_by Join p = Ok false
answer_by EntriesFull p = Err (p, refused.EntriesFull)
answer_by PacketsFull p = Err (p, refused.PacketsFull)

-- no waiting entry was made after this moment
abbrev pub NoneAfter : ℕ → List Awaiting → Type 0
NoneAfter now waiting = AllByRecursion (λ a. a.since ≤ now) waiting
