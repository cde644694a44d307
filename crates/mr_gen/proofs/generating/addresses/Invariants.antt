use Rattle.std.proofs.Common.{◌≡◌, ◌++◌, drop, map}
use Rattle.mr_scenario.specs.Spelled.{address_only}
use Rattle.mr_gen.proofs.generating.addresses.Given as goal

abbrev pub invariant-loop-one : goal.invariant-loop-one
invariant-loop-one l = l.all.items ++ map address_only (drop l.one-index l.named) ≡ map address_only l.named
