use Rattle.std.proofs.Common.{◌≡◌, ◌++◌, length}
use Rattle.std.specs.Prelude.{flat_map}
use Rattle.smc_rules.specs.Requests.{rule_requests}
use Rattle.smc_rules.proofs.requests.push_rules.Given as goal

abbrev pub invariant-rules : goal.invariant-rules
invariant-rules l =
    l.requests.items ++ flat_map (rule_requests l.aim l.interfaces) l.rest
    ≡ l.initial.requests.items ++ flat_map (rule_requests l.aim l.interfaces) l.rules.entries

abbrev pub decreases-rules : goal.decreases-rules
decreases-rules l = length l.rest
