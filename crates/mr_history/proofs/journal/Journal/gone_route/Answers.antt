use Rattle.std.proofs.Common.{refl}
use Rattle.mr_history.proofs.Bearing.{has_value, numbers_left, all_left, most_left}
use Rattle.mr_history.proofs.Journaling.{counted_routes}
use Rattle.mr_history.proofs.journal.Journal.gone_route.Goals as goal

pub remove-requires : goal.remove-requires
remove-requires c = has_value c.self.inside.totals.routes.items c.args.number
    (rw (← c.self.view_is) at c.requires)

pub invariant_of-self : goal.invariant_of-self
invariant_of-self c =
    let v = c.self.invariant in
    record {
      limits = v.limits;
      left = v.left;
      space = v.space;
      counted = counted_routes c.self.inside.limits c.self.inside.store.entries
          c.self.inside.totals _ v.counted
          (rw c.remove.ensures.items (all_left _ _ c.args.number v.counted.totals.routes))
          (rw (c.remove.ensures.items, numbers_left)
          (most_left _ c.args.number _ v.counted.numbers)) c.remove.ensures.room refl;
    }

pub returns : goal.returns
returns c = rw (c.remove.ensures.items, numbers_left, ← c.self.view_is) refl
