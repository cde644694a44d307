use Rattle.mr_publish.proofs.Fitting.{taken_behind}
use Rattle.mr_publish.proofs.publisher.Publisher.publish.Goals as goal

pub show-requires-clause-tables : goal.show-requires-clause-tables
show-requires-clause-tables g c =
    let inside = c.self.inside in
    let inv = c.self.invariant in
    rw (inv.1, c.mark.ensures, c.advance-front.ensures, c.as_slice.ensures.value)
    (taken_behind g.J.PairName.start inside.front inside.staged.items inv.2)
