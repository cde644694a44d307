use Rattle.std.proofs.Common.{◌≡◌, ◌≤◌, drop}
use Rattle.std.specs.List.{fold}
use Rattle.smc_core.specs.Driving.{driven}
use Rattle.smc_daemon.specs.Lines.{lines_among}
use Rattle.smc_driver.specs.Leading.{Goes}
use Rattle.smc_driver.proofs.lines.drive.Given as goal

abbrev pub invariant-loop-line : goal.invariant-loop-line
invariant-loop-line g l =
    record {
      goes :
          Goes
          (λ c. fold driven c (lines_among l.daemon.0 l.script))
          (λ c. fold driven c (lines_among l.daemon.0 (drop l.line-index l.script)))
          l.initial.smc l.smc (g.K.Caller.did l.initial.caller) (g.K.Caller.did l.caller);
      idle : l.smc.plan.left ≡ 0;
      falls : g.K.Caller.entries_left l.caller ≤ g.K.Caller.entries_left l.initial.caller;
      none_left : g.K.Caller.entries_left l.initial.caller ≡ 0 → g.K.Caller.did l.caller ≡ g.K.Caller.did l.initial.caller;
    }
