use Rattle.std.proofs.Common.{length}
use Rattle.mr_upcall.proofs.queue.Queue.clear.Given as goal

abbrev pub decreases-loop : goal.decreases-loop
decreases-loop l = length l.self
