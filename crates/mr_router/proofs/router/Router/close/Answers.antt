use Rattle.std.proofs.Common.{◌≡◌, ◌∙◌, ℕ, List, All, sym, ap, subst}
use Rattle.std.proofs.lemmas.List.Elements.{All-weaker}
use Rattle.mr_model.specs.declared.entry.Entry.{Entry}
use Rattle.mr_model.specs.Legal.{IsLegal}
use Rattle.mr_authors.specs.Authors.{daemon_author}
use Rattle.mr_router.specs.Callers.{LaneValue, DaemonValue}
use Rattle.mr_router.specs.Histories.{GoesOn}
use Rattle.mr_router.specs.Seats.{KnowsCaller, KnowsLane, KnowsDaemon}
use Rattle.mr_router.proofs.Walking.{closes, knows_through, knows_router}
use Rattle.mr_router.proofs.router.Router.close.Goals as goal

pub returns-clause-router : goal.returns-clause-router
returns-clause-router g c =
    let limits = g.C.RunName.limits in
    let k = c.self.inside.seat in
    let one = c.meet_lanes.new.router in
    let two = c.meet_daemons.new.router in
    let h = c.close.result in
    let known = knows_through two one 0 k.seen c.meet_daemons.ensures.router (knows_through one k 0 k.seen c.meet_lanes.ensures.router (knows_router k c.self.invariant)) in
    let went = closes limits two h 0 k.seen c.close.ensures.begins c.close.ensures.own c.into_kernel.ensures.legal known in
    subst (λ (s : List Entry). GoesOn limits 0 s c.into_kernel.result.history) c.self.view_is (subst (GoesOn limits 0 k.seen) (sym c.into_kernel.ensures.history) went)

pub returns-clause-lanes : goal.returns-clause-lanes
returns-clause-lanes g c =
    let limits = g.C.RunName.limits in
    let one = c.meet_lanes.new.router in
    let two = c.meet_daemons.new.router in
    let h = c.close.result in
    let ends = λ (l : LaneValue) (known : KnowsLane one l). subst (GoesOn limits l.lane.0 l.seen) (sym c.into_kernel.ensures.history) (closes limits two h l.lane.0 l.seen c.close.ensures.begins c.close.ensures.own c.into_kernel.ensures.legal (knows_through two one l.lane.0 l.seen c.meet_daemons.ensures.router known)) in
    All-weaker (KnowsLane one) (λ (l : LaneValue). GoesOn limits l.lane.0 l.seen c.into_kernel.result.history) ends c.args.lanes.items c.meet_lanes.ensures.lanes

pub returns-clause-daemons : goal.returns-clause-daemons
returns-clause-daemons g c =
    let limits = g.C.RunName.limits in
    let two = c.meet_daemons.new.router in
    let h = c.close.result in
    let ends = λ (d : DaemonValue) (known : KnowsDaemon two d). subst (GoesOn limits (daemon_author d.daemon.0) d.seen) (sym c.into_kernel.ensures.history) (closes limits two h (daemon_author d.daemon.0) d.seen c.close.ensures.begins c.close.ensures.own c.into_kernel.ensures.legal known) in
    All-weaker (KnowsDaemon two) (λ (d : DaemonValue). GoesOn limits (daemon_author d.daemon.0) d.seen c.into_kernel.result.history) ends c.args.daemons.items c.meet_daemons.ensures.daemons
