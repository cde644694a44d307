use Rattle.std.proofs.Common.{◌≡◌, ◌≤◌, length, take}
use Rattle.mr_gen.specs.Sums.{busiest_before, nobody}
use Rattle.mr_gen.proofs.summing.busiest_of.Given as goal

abbrev pub invariant-loop-left : goal.invariant-loop-left
invariant-loop-left l = record {
  within : l.left ≤ length l.routes;
  best : busiest_before (take l.left l.routes) l.busiest ≡ busiest_before l.routes nobody;
}

abbrev pub decreases-loop-left : goal.decreases-loop-left
decreases-loop-left l = l.left
