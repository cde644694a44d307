use Rattle.std.proofs.Common.{◌≡◌, ◌++◌, drop}
use Rattle.smc_rules.specs.Requests.{vif_requests}
use Rattle.smc_rules.proofs.requests.push_vifs.Given as goal

abbrev pub invariant-loop-interface : goal.invariant-loop-interface
invariant-loop-interface l =
    record {
      same :
          l.requests.items ++ vif_requests l.aim l.vif (drop l.interface-index l.interfaces)
          ≡ l.initial.requests.items ++ vif_requests l.aim 0 l.interfaces;
      place : l.vif ≡ l.interface-index;
    }
