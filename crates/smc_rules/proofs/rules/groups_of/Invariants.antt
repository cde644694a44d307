use Rattle.std.proofs.Common.{◌≡◌, [], drop}
use Rattle.smc_rules.specs.Groups.{groups_from}
use Rattle.smc_rules.proofs.rules.groups_of.Given as goal

abbrev pub invariant-loop-line : goal.invariant-loop-line
invariant-loop-line l =
    groups_from l.groups.keys (drop l.line-index l.lines) ≡ groups_from [] l.lines
