use Rattle.std.proofs.Common.{◌≡◌, ◌∙◌, Option, Some, None, List, find, sym, ap, subst}
use Rattle.mr_base.specs.declared.route.Route.{Route}
use Rattle.mr_model.specs.Counts.{route_counts}
use Rattle.mr_model.specs.RouteList.{is_named}
use Rattle.mr_kernel.proofs.Planning.{sg_absent, sg_counted, sg_present}
use Rattle.mr_kernel.proofs.answering.sg_count.Goals as goal

pub returns-in_default : goal.returns-in_default
returns-in_default c d =
    let none : find (is_named c.args.src c.args.dst None) c.args.live.now.tables.tables.routes
    ≡ None =
    ap (λ (rs : List Route). find (is_named c.args.src c.args.dst None) rs)
    (sym c.cache.ensures.routes) ∙ sym c.in_default.ensures.first in
    c.refused.ensures ∙ sg_absent c.args.journal.now c.args.live.now d c.args.src c.args.dst
    c.requires.stands none

pub returns-in-None : goal.returns-in-None
returns-in-None c d =
    let some : find (is_named c.args.src c.args.dst None) c.args.live.now.tables.tables.routes
    ≡ Some c.in-Some.route =
    ap (λ (rs : List Route). find (is_named c.args.src c.args.dst None) rs)
    (sym c.cache.ensures.routes) ∙ sym c.in-Some.ensures.first in
    let totals = sg_counted c.args.journal.now c.args.live.now c.args.src c.args.dst
    c.in-Some.route c.requires.counts some in
    let none = c.in-None.ensures in
    absurd cc

pub returns-in-Some-route_totals : goal.returns-in-Some-route_totals
returns-in-Some-route_totals c d =
    let some : find (is_named c.args.src c.args.dst None) c.args.live.now.tables.tables.routes
    ≡ Some c.in-Some.route =
    ap (λ (rs : List Route). find (is_named c.args.src c.args.dst None) rs)
    (sym c.cache.ensures.routes) ∙ sym c.in-Some.ensures.first in
    let totals = sg_counted c.args.journal.now c.args.live.now c.args.src c.args.dst
    c.in-Some.route c.requires.counts some in
    let given = c.in-Some-route_totals.ensures in
    let present = sg_present c.args.journal.now c.args.live.now d c.args.src c.args.dst
    c.in-Some.route c.requires.stands c.requires.counts some in
    let same : c.in-Some-route_totals.totals
    ≡ route_counts c.args.journal.now.entries c.in-Some.route.number = cc in
    rw same present
