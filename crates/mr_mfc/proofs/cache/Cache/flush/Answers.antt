use Rattle.std.proofs.Common.{◌≡◌, rules}
use Rattle.std.proofs.lemmas.Fn.{filter_same}
use Rattle.mr_model.specs.RouteList.{routes_left}
use Rattle.mr_mfc.proofs.Sound.{flush_sound}
use Rattle.mr_mfc.proofs.cache.Cache.flush.Goals as goal

kept : (c : goal.After-retain) → c.retain.new.self.items ≡ routes_left c.args.loose c.args.fixed c.self.inside.newest_first.items
kept c = filter_same _ _ _ (λ x b f' k. search rules) _ _ c.retain.ensures.filtered

pub invariant_of-self : goal.invariant_of-self
invariant_of-self c = (flush_sound _ _ _ _ _ c.self.invariant.0 (kept c), rw c.retain.ensures.capacity c.self.invariant.1)

pub returns-clause-routes : goal.returns-clause-routes
returns-clause-routes c = rw (← c.self.view_is) (kept c)
