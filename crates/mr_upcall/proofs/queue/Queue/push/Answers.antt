use Rattle.std.proofs.Common.{◌++◌, ◌∷◌, [], ap, ◌∙◌, arith}
use Rattle.mr_upcall.proofs.RingSteps.{ring_after_push}
use Rattle.mr_upcall.proofs.queue.Queue.push.Goals as goal

pub invariant_of-self : goal.invariant_of-self
invariant_of-self c =
    let q = c.self.inside in
    let fits = c.self.invariant.fits in
    (ring_after_push 64 q.oldest q.len q.slots c.args.message c.self.invariant (omega arith)).0

pub returns-clause-pushed : goal.returns-clause-pushed
returns-clause-pushed c =
    let q = c.self.inside in
    let fits = c.self.invariant.fits in
    (ring_after_push 64 q.oldest q.len q.slots c.args.message c.self.invariant (omega arith)).1
    ∙ ap (λ l. l ++ c.args.message ∷ []) c.self.view_is
