use Rattle.std.proofs.Common.{◌≡◌, ◌++◌, drop}
use Rattle.std.specs.Prelude.{flat_map}
use Rattle.smc_core.specs.Showing.{learned_line}
use Rattle.smc_core.proofs.showing.write_learned.Given as goal

abbrev pub invariant-loop-entry : goal.invariant-loop-entry
invariant-loop-entry l =
    l.out.items ++ flat_map (learned_line l.interfaces) (drop l.entry-index l.learned)
    ≡ l.initial.out.items ++ flat_map (learned_line l.interfaces) l.learned
