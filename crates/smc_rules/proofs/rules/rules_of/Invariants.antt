use Rattle.std.proofs.Common.{◌≡◌, [], drop}
use Rattle.smc_rules.specs.Rules.{rules_from}
use Rattle.smc_rules.proofs.rules.rules_of.Given as goal

abbrev pub invariant-loop-line : goal.invariant-loop-line
invariant-loop-line l =
    rules_from l.rules.entries (drop l.line-index l.lines) ≡ rules_from [] l.lines
