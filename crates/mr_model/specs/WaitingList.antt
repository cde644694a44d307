-- The packets that wait for an entry, by source and group (ipmr.c, ipmr_cache_unresolved and ipmr_expire_process).
use Rattle.std.specs.Prelude.{ℕ, ◌-◌, ◌==◌, ◌&&◌, Bool, not, nat_lt, if◌then◌else◌, Option, List, [], ◌∷◌, ◌++◌, find, filter}
use Rattle.std.specs.List.{list_any}
use Rattle.mr_base.specs.declared.numbers.Addr.{Addr}
use Rattle.mr_base.specs.declared.numbers.LaneNo.{LaneNo}
use Rattle.mr_model.specs.declared.flow.Flow.{Flow}

-- a packet that waits
pub record Waiter : Type 0 where
  pub lane : LaneNo
  pub index : ℕ
  pub flow : Flow

-- the packets of one source and group, oldest first, and the moment at which the first one missed
pub record Awaiting : Type 0 where
  pub src : Addr
  pub dst : Addr
  pub since : ℕ
  pub packets : List Waiter

abbrev pub is_awaiting : Addr → Addr → Awaiting → Bool
is_awaiting src dst a = a.src.0 == src.0 && a.dst.0 == dst.0

-- the waiting entry of a source and group
abbrev pub awaiting_of : List Awaiting → Addr → Addr → Option Awaiting
awaiting_of waiting src dst = find (is_awaiting src dst) waiting

-- A packet joins the waiting entry of its source and group, or makes one at this moment.
abbrev pub park : List Awaiting → ℕ → Waiter → List Awaiting
park [] now w = record { src = w.flow.src; dst = w.flow.dst; since = now; packets = w ∷ [] } ∷ []
park (a ∷ rest) now w =
    if is_awaiting w.flow.src w.flow.dst a
    then record a { packets = a.packets ++ w ∷ [] } ∷ rest
    else a ∷ park rest now w

-- a new entry takes the packets of its origin and group
abbrev pub without_awaiting : List Awaiting → Addr → Addr → List Awaiting
without_awaiting waiting src dst = filter (λ a. not (is_awaiting src dst a)) waiting

-- those that are younger than ten seconds at this moment
abbrev pub unexpired : ℕ → List Awaiting → List Awaiting
unexpired now waiting = filter (λ a. nat_lt (now - a.since) 10000) waiting

-- whether this packet waits
abbrev pub is_waiting : List Awaiting → LaneNo → ℕ → Bool
is_waiting waiting lane index =
    list_any (λ a. list_any (λ w. w.lane.0 == lane.0 && w.index == index) a.packets) waiting
