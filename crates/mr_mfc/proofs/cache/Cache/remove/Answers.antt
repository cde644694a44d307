use Rattle.std.proofs.Common.{◌≡◌}
use Rattle.mr_model.specs.RouteList.{has_number, remove_first}
use Rattle.mr_mfc.proofs.Places.{remove_at}
use Rattle.mr_mfc.proofs.Sound.{remove_sound}
use Rattle.mr_mfc.proofs.cache.Cache.remove.Goals as goal

removed : (c : goal.After-remove) → c.remove.new.self.items ≡ remove_first (has_number c.args.number) c.self.inside.newest_first.items
removed c =
    let value = c.as_slice.ensures.value in
    let place = c.place_of-at.ensures in
    rw (c.remove.ensures.items, place.first, value) (remove_at _ _ (rw value at (rw place.first at place.within)))

pub invariant_of-self : goal.invariant_of-self
invariant_of-self c = (remove_sound _ _ _ _ c.self.invariant.0 (removed c), rw c.remove.ensures.capacity c.self.invariant.1)

pub returns-clause-routes : goal.returns-clause-routes
returns-clause-routes c = rw (← c.self.view_is) (removed c)
