use Rattle.std.proofs.Common.{refl, arith, length}
use Rattle.mr_model.specs.Counts.{met}
use Rattle.mr_history.proofs.Bearing.{below_new, route_zero, no_route_yet}
use Rattle.mr_history.proofs.Journaling.{counted_routes}
use Rattle.mr_history.proofs.journal.Journal.born_route.Goals as goal

pub push-requires-clause-above : goal.push-requires-clause-above
push-requires-clause-above c =
    let q = rw (← c.self.view_is) at c.requires in
    below_new c.self.inside.totals.routes.items c.args.number
    (rw (← q.next) at c.self.invariant.counted.numbers) q.new

pub invariant_of-self : goal.invariant_of-self
invariant_of-self c =
    let v = c.self.invariant in
    let q = rw (← c.self.view_is) at c.requires in
    let h = c.self.inside.store.entries in
    let d = c.default.ensures in
    let zero = no_route_yet c.default.result d.0 d.1.0 d.1.1 in
    record {
      limits = v.limits;
      left = v.left;
      space = v.space;
      counted = counted_routes c.self.inside.limits h c.self.inside.totals _ v.counted
          (rw (c.push.ensures.items, q.next, route_zero (met h) (length h) v.counted.within)
          (zero, v.counted.totals.routes))
          (rw c.push.ensures.items (omega (arith, q.next), v.counted.numbers))
          c.push.ensures.room refl;
    }
