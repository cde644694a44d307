use Rattle.std.proofs.Common.{◌≡◌, length}
use Rattle.mr_kernel.proofs.Ending.{Flushing}
use Rattle.mr_kernel.proofs.expiring.flush.Given as goal

abbrev pub invariant-loop-entry : goal.invariant-loop-entry
invariant-loop-entry l = Flushing l.number l.fn.waiting l.fn.fates l.waiting l.fates

abbrev pub decreases-loop-entry : goal.decreases-loop-entry
decreases-loop-entry l = length l.waiting.entries
