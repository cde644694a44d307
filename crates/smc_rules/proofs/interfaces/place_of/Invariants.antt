use Rattle.std.proofs.Common.{◌≡◌, drop}
use Rattle.smc_rules.specs.Interfaces.{vif_from}
use Rattle.smc_rules.proofs.interfaces.place_of.Given as goal

abbrev pub invariant-loop-interface : goal.invariant-loop-interface
invariant-loop-interface l = record {
  same :
      vif_from l.vif l.name (drop l.interface-index l.interfaces)
      ≡ vif_from 0 l.name l.interfaces;
  place : l.vif ≡ l.interface-index;
}
