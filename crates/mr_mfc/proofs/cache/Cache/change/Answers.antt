use Rattle.std.proofs.Common.{◌≡◌, slice_set}
use Rattle.mr_model.specs.RouteList.{has_number, changed_to, change_first}
use Rattle.mr_mfc.proofs.Places.{change_place}
use Rattle.mr_mfc.proofs.Sound.{change_sound}
use Rattle.mr_mfc.proofs.cache.Cache.change.Goals as goal

changed : (c : goal.After-self-1) → slice_set c.self.inside.newest_first.items c.place_of-at.result c.changed_to.result
    ≡ change_first (has_number c.args.number) (changed_to c.args.parent c.args.ttls c.args.fixed) c.self.inside.newest_first.items
changed c =
    let value = c.as_slice.ensures.value in
    rw c.changed_to.ensures
    (change_place
    _ (changed_to c.args.parent c.args.ttls c.args.fixed) _ c.place_of-at.result _ (rw value at c.place_of-at.ensures.first)
    (rw value at c.place_of-at.ensures.within) c.index-route.ensures)

pub invariant_of-self : goal.invariant_of-self
invariant_of-self c = (change_sound _ _ _ _ _ _ _ c.self.invariant.0 (changed c), c.self.invariant.1)

pub returns-clause-routes : goal.returns-clause-routes
returns-clause-routes c = rw (← c.self.view_is) (changed c)
