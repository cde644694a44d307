use Rattle.std.proofs.Common.{◌≡◌, ◌∙◌, [], ◌∷◌, ◌++◌, List, All, ap, sym, subst, append-nil}
use Rattle.std.proofs.lemmas.List.Elements.{All-nil, All-cons, All-weaker}
use mathlib.Core.List.{IsPrefix}
use Rattle.mr_book.specs.declared.view.Known.{Known}
use Rattle.mr_book.specs.Views.{met}
use Rattle.mr_model.specs.declared.entry.Entry.{Entry}
use Rattle.mr_authors.specs.Authors.{daemon_author}
use Rattle.mr_router.specs.Callers.{LaneValue}
use Rattle.mr_router.specs.Seats.{KnowsAll, KnowsLane}
use Rattle.mr_router.proofs.Walking.{knows_self, knows_all_more, knows_more, knows_new, popped, drained}
use Rattle.mr_router.proofs.loops.meet_lanes.Goals as goal

pub loop-lane-init : goal.loop-lane-init
loop-lane-init g c = record {
  router = knows_self c.args.router.now;
  met = ([], sym (append-nil c.args.lanes.items), All-nil (KnowsLane c.args.router.now));
}

pub loop-lane-preserved : goal.loop-lane-preserved
loop-lane-preserved g c =
    let k = c.loop-lane.router in
    let w = c.into_seat.result in
    let inv = c.loop-lane.invariant in
    let is = c.meet.ensures.met in
    let into : IsPrefix k.seen (met k w).seen = subst (λ (v : Known Entry). IsPrefix k.seen v.seen) is c.meet.ensures.into in
    let from : IsPrefix w.seen (met k w).seen = subst (λ (v : Known Entry). IsPrefix w.seen v.seen) is c.meet.ensures.from in
    let one : KnowsLane (met k w) c.in-Some.lane = knows_new k w c.in-Some.lane.lane.0 c.in-Some.lane.seen c.into_seat.ensures.seat c.into_seat.ensures.seen from in
    let known : All (KnowsLane (met k w)) (c.in-Some.lane ∷ inv.met.0) = All-cons (KnowsLane (met k w)) c.in-Some.lane inv.met.0 one (All-weaker (KnowsLane k) (KnowsLane (met k w)) (λ (x : LaneValue) (h : KnowsLane k x). knows_more k w x.lane.0 x.seen into h) inv.met.0 inv.met.2) in
    record {
      router = subst (λ (v : Known Entry). KnowsAll v c.args.router.now) (sym is) (knows_all_more k w c.args.router.now into inv.router);
      met = (c.in-Some.lane ∷ inv.met.0, popped c.args.lanes.items c.loop-lane.lanes.items c.pop.new.self.items inv.met.0 c.in-Some.lane c.pop.result inv.met.1 c.pop.ensures.items c.in-Some.is, subst (λ (v : Known Entry). All (KnowsLane v) (c.in-Some.lane ∷ inv.met.0)) (sym is) known);
    }

pub returns-clause-lanes : goal.returns-clause-lanes
returns-clause-lanes g c =
    let met = c.loop-lane.invariant.met in
    let p = c.pop.ensures in
    let none = drained c.loop-lane.lanes.items c.pop.new.self.items _ _ c.pop.result _ c.in_default.is p.items p.rest p.cases in
    subst (All (KnowsLane c.loop-lane.router)) (sym (met.1 ∙ ap (λ (b : List LaneValue). b ++ met.0) none)) met.2
