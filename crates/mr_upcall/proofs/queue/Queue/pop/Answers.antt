use Rattle.std.proofs.Common.{sym, ◌∙◌, arith}
use Rattle.mr_upcall.proofs.RingSteps.{ring_after_pop, oldest_taken, some_taken, nothing_stays}
use Rattle.mr_upcall.proofs.queue.Queue.pop.Goals as goal

pub invariant_of-self : goal.invariant_of-self
invariant_of-self c =
    let q = c.self.inside in
    let popped = ring_after_pop 64 q.oldest q.len q.slots c.self.invariant (omega arith) in
    rw c.take_out-message.ensures.after popped.2

pub returns : goal.returns
returns c =
    let q = c.self.inside in
    let popped = ring_after_pop 64 q.oldest q.len q.slots c.self.invariant (omega arith) in
    let is = c.take_out-message.ensures.value ∙ popped.1 in
    let split = sym c.self.view_is ∙ popped.3 in
    rw c.take_out-message.ensures.after (record {
      oldest = oldest_taken _ popped.0 _ _ is split;
      empty = some_taken _ popped.0 _ _ is split;
      stays = nothing_stays _ popped.0 _ _ is split;
    })
