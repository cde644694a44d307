use Rattle.std.proofs.Common.{length}
use Rattle.mr_kernel.proofs.Freeing.{Halfway}
use Rattle.mr_kernel.proofs.releasing.release.Given as goal

abbrev pub invariant-loop-packet : goal.invariant-loop-packet
invariant-loop-packet l = Halfway l.route l.fn.live l.fn.packets.items l.live l.freed.items
    l.waiting.items

abbrev pub decreases-loop-packet : goal.decreases-loop-packet
decreases-loop-packet l = length l.waiting.items
