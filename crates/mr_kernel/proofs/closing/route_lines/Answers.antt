use Rattle.std.proofs.Common.{◌≡◌, ◌∙◌, ℕ, true, List, reverse, sym, ap, subst}
use Rattle.std.specs.List.{AllByRecursion}
use Rattle.mr_base.specs.declared.route.Route.{Route}
use Rattle.mr_history.specs.Journals.{has_number}
use Rattle.mr_kernel.proofs.Closings.{own_numbers, all_reverse}
use Rattle.mr_kernel.proofs.closing.route_lines.Goals as goal

pub route_pairs-requires : goal.route_pairs-requires
route_pairs-requires c =
    let rs = c.args.cache.now.routes in
    let own = all_reverse (λ r. has_number c.args.journal.now.routes r.number ≡ true) rs
    (subst (λ (ns : List ℕ). AllByRecursion (λ r. has_number ns r.number ≡ true) rs)
    (sym c.requires) (own_numbers rs)) in
    let listed : c.as_slice.result.now ≡ reverse rs = c.as_slice.ensures.value
    ∙ c.in_ok-routes.ensures in
    subst (λ (xs : List Route). AllByRecursion
    (λ r. has_number c.args.journal.now.routes r.number ≡ true) xs) (sym listed) own
