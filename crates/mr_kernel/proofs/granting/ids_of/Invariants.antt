use Rattle.std.proofs.Common.{◌≡◌, ◌++◌, drop, length, map}
use Rattle.mr_kernel.specs.Flows.{id_of}
use Rattle.mr_kernel.proofs.granting.ids_of.Given as goal

abbrev pub invariant-loop-one : goal.invariant-loop-one
invariant-loop-one l =
    (l.ids.items ++ map id_of (drop l.one-index l.freed) ≡ map id_of l.fn.freed)
    × (length l.ids.items ≡ l.one-index)
