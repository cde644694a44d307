use Rattle.std.proofs.Common.{◌≡◌, ◌≤◌}
use Rattle.smc_core.specs.Driving.{polled}
use Rattle.smc_driver.specs.Leading.{Goes}
use Rattle.smc_driver.proofs.receiving.poll.Given as goal

abbrev pub invariant-polls : goal.invariant-polls
invariant-polls g l =
    record {
      goes : Goes (polled l.fn.most) (polled l.left) l.initial.smc l.smc (g.K.Caller.did l.initial.caller) (g.K.Caller.did l.caller);
      idle : l.smc.plan.left ≡ 0;
      falls : g.K.Caller.entries_left l.caller ≤ g.K.Caller.entries_left l.initial.caller;
      none_left : g.K.Caller.entries_left l.initial.caller ≡ 0 → g.K.Caller.did l.caller ≡ g.K.Caller.did l.initial.caller;
    }

abbrev pub decreases-polls : goal.decreases-polls
decreases-polls g l = l.left
