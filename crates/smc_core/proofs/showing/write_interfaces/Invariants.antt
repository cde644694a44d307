use Rattle.std.proofs.Common.{◌≡◌, ◌++◌, drop}
use Rattle.smc_core.specs.Showing.{interface_lines}
use Rattle.smc_core.proofs.showing.write_interfaces.Given as goal

abbrev pub invariant-loop-interface : goal.invariant-loop-interface
invariant-loop-interface l =
    record {
      same :
          l.out.items ++ interface_lines l.vif (drop l.interface-index l.interfaces)
          ≡ l.initial.out.items ++ interface_lines 0 l.interfaces;
      place : l.vif ≡ l.interface-index;
    }
