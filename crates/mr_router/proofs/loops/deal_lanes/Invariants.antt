use Rattle.std.proofs.Common.{◌≡◌, ◌+◌, ◌-◌, ◌≤◌, length, vec_len, vec_capacity}
use Rattle.mr_history.specs.declared.most.TheConstants.{MOST_LANES, MOST_DAEMONS}
use Rattle.mr_router.specs.Callers.{new_lanes}
use Rattle.mr_router.proofs.loops.deal_lanes.Given as goal

abbrev pub invariant-loop-index : goal.invariant-loop-index
invariant-loop-index g l = record {
  lanes : l.lanes.items ≡ new_lanes l.index;
  room : vec_len l.lanes + length l.counts ≤ vec_capacity l.lanes + l.index;
  dealer : l.dealer ≡ record { next = 1 + l.index; left = MOST_LANES + MOST_DAEMONS - l.index };
}
