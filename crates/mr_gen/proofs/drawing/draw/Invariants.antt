use Rattle.std.proofs.Common.{◌≡◌, ◌+◌, ◌-◌, ◌≤◌, ◌++◌, flat_map, map}
use Rattle.mr_gen.specs.Dealt.{lane_dealt}
use Rattle.mr_gen.specs.Generated.{items, items_of}
use Rattle.mr_load.specs.Callers.{from_on, one_to}
use Rattle.mr_gen.proofs.drawing.draw.Given as goal

abbrev pub invariant-loop-i : goal.invariant-loop-i
invariant-loop-i l = record {
  lines : l.drawn.items.items ++ flat_map (items_of l.fn.seed l.fn.packets) (from_on (l.i + 1) (l.fn.lanes - l.i)) ≡ items l.fn.seed l.fn.lanes l.fn.packets;
  lanes : l.drawn.lanes.items ++ map (lane_dealt l.fn.seed l.fn.packets) (from_on (l.i + 1) (l.fn.lanes - l.i)) ≡ map (lane_dealt l.fn.seed l.fn.packets) (one_to l.fn.lanes);
}
