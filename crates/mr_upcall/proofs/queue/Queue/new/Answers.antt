use Rattle.std.proofs.Common.{None, arith}
use Rattle.mr_upcall.proofs.RingSteps.{empty_ring}
use Rattle.mr_upcall.proofs.queue.Queue.new.Goals as goal

pub invariant_of-result : goal.invariant_of-result
invariant_of-result c =
    let blank = c.default.ensures in
    (empty_ring 64 c.default.result (omega arith) blank.long (λ i within. blank.at i None within)).0

pub returns : goal.returns
returns c =
    let blank = c.default.ensures in
    (empty_ring 64 c.default.result (omega arith) blank.long (λ i within. blank.at i None within)).1
