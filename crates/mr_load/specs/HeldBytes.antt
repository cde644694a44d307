-- How a lane's packets are kept: each names the part of the bytes that is its own.
use Rattle.std.specs.Prelude.{◌+◌, ◌≤◌, ℕ, List, length, map, take, drop}
use Rattle.std.specs.List.{AllByRecursion}
use Rattle.mr_load.specs.Dues.{Due, LaneValue, AreDue}
use Rattle.mr_load.specs.declared.lane.Held.{Held}
use Rattle.mr_load.specs.declared.lane.LanePackets.TheInside.{Inside}

abbrev pub due_held : List ℕ → Held → Due
due_held all h = record {
  phase = h.phase;
  index = h.index;
  dev = h.dev;
  bytes = take h.length (drop h.from all);
}

-- its bytes stand among these
abbrev pub IsWithin : List ℕ → Held → Type 0
IsWithin all h = h.from + h.length ≤ length all

abbrev pub dues_held : List ℕ → List Held → List Due
dues_held all hs = map (due_held all) hs

abbrev pub lane_value : Inside → LaneValue
lane_value a = record { lane = a.lane; packets = dues_held a.bytes.items a.held.items }

pub record IsLane (a : Inside) : Type 0 where
  pub within : AllByRecursion (IsWithin a.bytes.items) a.held.items
  pub due : AreDue (dues_held a.bytes.items a.held.items)
