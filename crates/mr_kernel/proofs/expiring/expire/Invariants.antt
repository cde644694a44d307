use Rattle.std.proofs.Common.{◌≡◌, length}
use Rattle.mr_kernel.proofs.Ending.{Expiring}
use Rattle.mr_kernel.proofs.expiring.expire.Given as goal

abbrev pub invariant-loop-entry : goal.invariant-loop-entry
invariant-loop-entry l = Expiring l.number l.moment l.fn.waiting l.fn.fates l.waiting l.fates

abbrev pub decreases-loop-entry : goal.decreases-loop-entry
decreases-loop-entry l = length l.waiting.entries
