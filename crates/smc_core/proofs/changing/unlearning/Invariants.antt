use Rattle.std.proofs.Common.{◌≡◌, ◌++◌, map, drop}
use Rattle.std.specs.Prelude.{filter}
use Rattle.smc_core.specs.Changing.{is_of}
use Rattle.smc_rules.specs.Requests.{del_learned}
use Rattle.smc_core.proofs.changing.unlearning.Given as goal

abbrev pub invariant-loop-entry : goal.invariant-loop-entry
invariant-loop-entry l =
    l.requests.items ++ map del_learned (filter (is_of l.vif l.key) (drop l.entry-index l.learned))
    ≡ map del_learned (filter (is_of l.vif l.key) l.learned)
