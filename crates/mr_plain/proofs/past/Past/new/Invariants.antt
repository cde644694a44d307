use Rattle.std.proofs.Common.{◌≡◌, ◌++◌, map, drop}
use Rattle.mr_plain.specs.Pasts.{fresh_lane}
use Rattle.mr_plain.proofs.past.Past.new.Given as goal

abbrev pub invariant-loop-left : goal.invariant-loop-left
invariant-loop-left l = l.lanes.items ++ map fresh_lane (drop l.left-index l.packets) ≡ map fresh_lane l.packets
