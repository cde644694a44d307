use Rattle.std.proofs.Common.{◌≡◌, ◌≤◌, ◌+◌, drop, length}
use Rattle.std.specs.List.{fold}
use Rattle.smc_core.specs.Driving.{ask, worked_off}
use Rattle.smc_driver.specs.Leading.{Leads}
use Rattle.smc_driver.proofs.asking.ask_all.Given as goal

abbrev pub invariant-loop-request : goal.invariant-loop-request
invariant-loop-request g l =
    record {
      leads :
          Leads
          (λ c. worked_off c (record { machine = l.initial.smc; requests = l.requests; text = l.initial.text.items }))
          (λ c. fold ask c (drop l.request-index l.requests))
          l.initial.smc l.smc (g.K.Caller.did l.initial.caller) (g.K.Caller.did l.caller) l.text.items;
      waits : l.smc.plan.left + l.request-index ≡ length l.requests;
      falls : g.K.Caller.entries_left l.caller ≤ g.K.Caller.entries_left l.initial.caller;
      none_left : g.K.Caller.entries_left l.initial.caller ≡ 0 → g.K.Caller.did l.caller ≡ g.K.Caller.did l.initial.caller;
    }
