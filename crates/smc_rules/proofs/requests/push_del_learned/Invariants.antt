use Rattle.std.proofs.Common.{◌≡◌, ◌++◌, map, drop}
use Rattle.smc_rules.specs.Requests.{del_learned}
use Rattle.smc_rules.proofs.requests.push_del_learned.Given as goal

abbrev pub invariant-loop-entry : goal.invariant-loop-entry
invariant-loop-entry l =
    l.requests.items ++ map del_learned (drop l.entry-index l.learned)
    ≡ l.initial.requests.items ++ map del_learned l.learned
