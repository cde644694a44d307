use Rattle.std.proofs.Common.{◌≡◌, ◌++◌, drop, length, map}
use Rattle.mr_kernel.proofs.granting.lengths_of.Given as goal

abbrev pub invariant-loop-one : goal.invariant-loop-one
invariant-loop-one l =
    (l.lengths.items ++ map (λ f. f.packet.head.length) (drop l.one-index l.freed)
    ≡ map (λ f. f.packet.head.length) l.fn.freed) × (length l.lengths.items ≡ l.one-index)
