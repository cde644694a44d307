use Rattle.std.proofs.Common.{◌≡◌, length}
use Rattle.smc_rules.specs.Rules.{first_serving}
use Rattle.smc_rules.proofs.rules.first_serving.Given as goal

abbrev pub invariant-rules : goal.invariant-rules
invariant-rules l =
    first_serving l.name l.told l.rest ≡ first_serving l.name l.told l.rules.entries

abbrev pub decreases-rules : goal.decreases-rules
decreases-rules l = length l.rest
