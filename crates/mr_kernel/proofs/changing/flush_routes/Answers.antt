use Rattle.std.proofs.Common.{refl, sym, ap, ◌∙◌, List}
use Rattle.mr_base.specs.declared.route.Route.{Route}
use Rattle.mr_history.specs.Journals.{JournalValue, has_number}
use Rattle.mr_kernel.specs.Holding.{numbers}
use Rattle.mr_kernel.specs.Standing.{moments}
use Rattle.mr_kernel.proofs.ChangesRoutes.{number_there}
use Rattle.mr_kernel.proofs.Walks.{kept_from, walk_all, walk_end, walk_less, walk_there}
use Rattle.mr_kernel.proofs.Walks.{journal_all, journal_step, kept_step, moments_step}
use Rattle.mr_kernel.proofs.changing.flush_routes.Goals as goal

pub loop-below-init : goal.loop-below-init
loop-below-init c =
    let rs = c.args.cache.now.routes in
    let all = walk_all c.args.loose c.args.fixed c.args.above rs c.requires.above in
    record {
      journal = journal_all c.args.loose c.args.fixed c.args.above rs c.args.journal.now
          c.requires.above c.requires.routes;
      attempts = rw all c.requires.attempts;
      moments = λ made so. rw all so;
      room = refl;
    }

pub flush_route-requires-clause-one : goal.flush_route-requires-clause-one
flush_route-requires-clause-one c =
    let rs = c.args.cache.now.routes in
    let n = c.in-Some.route.number in
    ap (λ (j : JournalValue). has_number j.routes n) c.loop-below.invariant.journal
    ∙ number_there n (kept_from c.args.loose c.args.fixed c.loop-below.below rs)
    ∙ walk_there c.args.loose c.args.fixed c.loop-below.below rs c.in-Some.route
    (sym c.in-Some.ensures)

pub loop-below-smaller : goal.loop-below-smaller
loop-below-smaller c =
    walk_less c.loop-below.below c.args.cache.now.routes c.in-Some.route (sym c.in-Some.ensures)

pub loop-below-preserved : goal.loop-below-preserved
loop-below-preserved c =
    let rs = c.args.cache.now.routes in
    let falls = c.facts.ensures.falling in
    record {
      journal = journal_step c.args.loose c.args.fixed c.loop-below.below rs c.in-Some.route
          c.args.journal.now c.loop-below.journal c.flush_route.new.journal falls
          (sym c.in-Some.ensures) c.loop-below.invariant.journal c.flush_route.ensures.journal;
      attempts = kept_step c.args.loose c.args.fixed c.loop-below.below rs c.in-Some.route
          c.loop-below.attempts.items c.flush_route.new.attempts.items falls
          (sym c.in-Some.ensures) c.loop-below.invariant.attempts c.flush_route.ensures.attempts;
      moments = λ made so. moments_step made c.args.loose c.args.fixed c.loop-below.below rs
          c.in-Some.route c.loop-below.attempts.items c.flush_route.new.attempts.items falls
          (sym c.in-Some.ensures) (c.loop-below.invariant.moments made so)
          c.flush_route.ensures.attempts;
      room = c.flush_route.ensures.room ∙ c.loop-below.invariant.room;
    }

pub returns-clause-journal : goal.returns-clause-journal
returns-clause-journal c =
    let rs = c.args.cache.now.routes in
    c.loop-below.invariant.journal
    ∙ ap (λ (left : List Route). record c.args.journal.now { routes = numbers left })
    (walk_end c.args.loose c.args.fixed c.loop-below.below rs (sym c.in_default.ensures))

pub returns-clause-attempts : goal.returns-clause-attempts
returns-clause-attempts c made so =
    let rs = c.args.cache.now.routes in
    c.loop-below.invariant.moments made so
    ∙ ap (λ (left : List Route). moments made left)
    (walk_end c.args.loose c.args.fixed c.loop-below.below rs (sym c.in_default.ensures))
