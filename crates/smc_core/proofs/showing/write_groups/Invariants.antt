use Rattle.std.proofs.Common.{◌≡◌, ◌++◌, drop}
use Rattle.std.specs.Prelude.{flat_map}
use Rattle.smc_core.specs.Showing.{group_line}
use Rattle.smc_core.proofs.showing.write_groups.Given as goal

abbrev pub invariant-loop-key : goal.invariant-loop-key
invariant-loop-key l =
    l.out.items ++ flat_map group_line (drop l.key-index l.groups.keys)
    ≡ l.initial.out.items ++ flat_map group_line l.groups.keys
