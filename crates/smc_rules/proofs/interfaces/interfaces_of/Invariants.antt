use Rattle.std.proofs.Common.{◌≡◌, ◌≤◌, [], length, drop}
use Rattle.smc_rules.specs.Interfaces.{interfaces_from}
use Rattle.smc_rules.proofs.interfaces.interfaces_of.Given as goal

abbrev pub invariant-loop-phyint : goal.invariant-loop-phyint
invariant-loop-phyint l =
    record {
      same :
          interfaces_from l.names l.interfaces.items (drop l.phyint-index l.phyints)
          ≡ interfaces_from l.names [] l.phyints;
      within : length l.interfaces.items ≤ 32;
    }
