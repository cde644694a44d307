use Rattle.std.proofs.Common.{length, arith, ◌<◌}
use Rattle.std.proofs.lemmas.List.{length-reverse, length-append}
use Rattle.mr_history.proofs.Numbering.{rising_push, all_turned}
use Rattle.mr_history.proofs.numbered.Numbered.push.Goals as goal

pub invariant_of-self : goal.invariant_of-self
invariant_of-self g c =
    let below = all_turned (λ p. p.0 < c.args.number) c.self.inside.rising.items
    (rw (← c.self.view_is) at c.requires.above) in
    let room : length c.self.inside.rising.items < c.self.inside.room =
    (rw (← length-reverse c.self.inside.rising.items)
    (rw (← c.self.view_is) at c.requires.room)) in
    rw (c.push_reserved.ensures.items, c.push_reserved.ensures.capacity, length-append)
    (rising_push _ _ c.self.invariant.0 below, omega (arith, room), c.self.invariant.2)
