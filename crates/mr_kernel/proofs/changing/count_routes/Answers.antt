use Rattle.std.proofs.Common.{◌∙◌, ap, sym, refl, ℕ, List, Option}
use Rattle.mr_history.specs.Journals.{remove_number}
use Rattle.mr_history.specs.Numbers.{without_value}
use Rattle.mr_model.specs.RouteList.{has_number}
use Rattle.mr_kernel.proofs.ChangesRoutes.{number_there, numbers_without, moments_without}
use Rattle.mr_kernel.proofs.ChangesRoutes.{numbers_changed, moments_changed}
use Rattle.mr_kernel.proofs.changing.count_routes.Goals as goal

pub forget_route-requires-clause-one : goal.forget_route-requires-clause-one
forget_route-requires-clause-one c =
    let fits = rw c.in-DropRoute.is at c.requires.fits in
    rw c.requires.routes (number_there c.in-DropRoute.target c.args.cache.now.routes ∙ fits)

pub returns-in-DropRoute-clause-journal : goal.returns-in-DropRoute-clause-journal
returns-in-DropRoute-clause-journal c =
    let target = c.in-DropRoute.target in
    rw c.in-DropRoute.is (c.forget_route.ensures.journal
    ∙ ap (λ (ns : List ℕ). record c.args.journal.now { routes = ns })
    (ap (λ (ns : List ℕ). remove_number ns target) c.requires.routes
    ∙ numbers_without target c.args.cache.now.routes))

pub returns-in-DropRoute-clause-attempts : goal.returns-in-DropRoute-clause-attempts
returns-in-DropRoute-clause-attempts c made so none =
    let target = c.in-DropRoute.target in
    rw c.in-DropRoute.is (c.forget_route.ensures.attempts
    ∙ ap (λ (ps : List (ℕ × Option ℕ)). without_value ps target) so
    ∙ moments_without made target c.args.cache.now.routes)

pub returns-in-OldRoute : goal.returns-in-OldRoute
returns-in-OldRoute c =
    let rs = c.args.cache.now.routes in
    let old = c.in-OldRoute in
    record {
      journal = rw old.is (ap (λ (ns : List ℕ). record c.args.journal.now { routes = ns })
          (c.requires.routes
          ∙ sym (numbers_changed (has_number old.target) old.parent old.ttls old.fixed rs)));
      attempts = λ made so none. rw old.is (so
          ∙ sym (moments_changed made (has_number old.target) old.parent old.ttls old.fixed rs));
      room = refl;
    }
