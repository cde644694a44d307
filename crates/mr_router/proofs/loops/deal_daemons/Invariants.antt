use Rattle.std.proofs.Common.{◌≡◌, ◌+◌, ◌-◌, ◌≤◌, length, vec_len, vec_capacity}
use Rattle.mr_history.specs.declared.most.TheConstants.{MOST_LANES, MOST_DAEMONS}
use Rattle.mr_router.specs.Callers.{new_daemons}
use Rattle.mr_router.proofs.loops.deal_daemons.Given as goal

abbrev pub invariant-loop-index : goal.invariant-loop-index
invariant-loop-index g l = record {
  daemons : l.daemons.items ≡ new_daemons l.index;
  room : vec_len l.daemons + l.count ≤ vec_capacity l.daemons + l.index;
  dealer : l.dealer ≡ record { next = 1 + MOST_LANES + l.index; left = MOST_DAEMONS - l.index };
}
