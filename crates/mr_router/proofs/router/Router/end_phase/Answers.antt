use Rattle.std.proofs.Common.{◌≡◌, ◌<◌, ◌∙◌, ℕ, List, All, sym, ap, subst}
use mathlib.Core.List.{IsPrefix}
use Rattle.mr_book.specs.declared.view.Known.{Known}
use Rattle.mr_model.specs.declared.entry.Entry.{Entry}
use Rattle.mr_model.specs.Past.{phases}
use Rattle.mr_authors.specs.Authors.{own}
use Rattle.mr_router.specs.Callers.{LaneValue, DaemonValue}
use Rattle.mr_router.specs.Seats.{IsRouterSeat, first_own}
use Rattle.mr_router.specs.Histories.{Ends}
use Rattle.mr_router.proofs.Walking.{prefix_trans, seen_more, adds_begins, phase_ends}
use Rattle.mr_router.proofs.Holding.{still_router, first_is}
use Rattle.mr_router.proofs.router.Router.end_phase.Goals as goal

pub add_end-end-requires-clause-router : goal.add_end-end-requires-clause-router
add_end-end-requires-clause-router g c =
    still_router c.self.inside.seat c.gather_daemons.new.router c.self.invariant (ap (λ (v : Known Entry). v.number) c.gather_daemons.ensures.router ∙ ap (λ (v : Known Entry). v.number) c.gather_lanes.ensures.router) (ap (λ (v : Known Entry). v.owns) c.gather_daemons.ensures.router ∙ ap (λ (v : Known Entry). v.owns) c.gather_lanes.ensures.router)

pub add_end-end-requires-clause-room : goal.add_end-end-requires-clause-room
add_end-end-requires-clause-room g c =
    let k = c.self.inside.seat in
    let owns = ap (λ (v : Known Entry). v.owns) c.gather_daemons.ensures.router ∙ ap (λ (v : Known Entry). v.owns) c.gather_lanes.ensures.router in
    let mine = first_is k c.gather_daemons.new.router c.self.invariant owns in
    let same = mine ∙ ap (λ (s : List Entry). own 0 s) c.self.view_is in
    subst (λ (es : List Entry). phases es < g.C.RunName.limits.phases) (sym same) c.requires.room

pub announce_lanes-requires-clause-begins : goal.announce_lanes-requires-clause-begins
announce_lanes-requires-clause-begins g c =
    let one = c.gather_lanes.new.router in
    let two = c.gather_daemons.new.router in
    let s = c.add_end-end.new.seat in
    let longer = prefix_trans one.seen two.seen s.seen c.gather_daemons.ensures.all_of_router (adds_begins g.C.RunName.limits two s c.add_end-end.ensures.adds) in
    subst (All (λ (l : LaneValue). IsPrefix l.seen s.seen)) (sym c.gather_lanes.ensures.lanes) (seen_more (λ (l : LaneValue). l.seen) one.seen s.seen c.args.lanes.now longer c.gather_lanes.ensures.all_of_lanes)

pub announce_daemons-requires-clause-begins : goal.announce_daemons-requires-clause-begins
announce_daemons-requires-clause-begins g c =
    let two = c.gather_daemons.new.router in
    let s = c.add_end-end.new.seat in
    let longer = adds_begins g.C.RunName.limits two s c.add_end-end.ensures.adds in
    let all : All (λ (d : DaemonValue). IsPrefix d.seen s.seen) c.gather_daemons.new.daemons = subst (All (λ (d : DaemonValue). IsPrefix d.seen s.seen)) (sym c.gather_daemons.ensures.daemons) (seen_more (λ (d : DaemonValue). d.seen) two.seen s.seen c.args.daemons.now longer c.gather_daemons.ensures.all_of_daemons) in
    subst (λ (r : Known Entry). All (λ (d : DaemonValue). IsPrefix d.seen r.seen) c.gather_daemons.new.daemons) (sym c.announce_lanes.ensures.router) all

pub returns-clause-ends : goal.returns-clause-ends
returns-clause-ends g c =
    let limits = g.C.RunName.limits in
    let k = c.self.inside.seat in
    let one = c.gather_lanes.new.router in
    let two = c.gather_daemons.new.router in
    let s = c.add_end-end.new.seat in
    let owns = ap (λ (v : Known Entry). v.owns) c.gather_daemons.ensures.router ∙ ap (λ (v : Known Entry). v.owns) c.gather_lanes.ensures.router in
    let longer = prefix_trans k.seen one.seen two.seen c.gather_lanes.ensures.all_of_router c.gather_daemons.ensures.all_of_router in
    let of_lanes = seen_more (λ (l : LaneValue). l.seen) one.seen two.seen c.args.lanes.now c.gather_daemons.ensures.all_of_router c.gather_lanes.ensures.all_of_lanes in
    let ends = phase_ends limits k two s c.args.lanes.now c.args.daemons.now c.self.invariant owns longer c.add_end-end.ensures.adds of_lanes c.gather_daemons.ensures.all_of_daemons in
    let last : c.announce_daemons.new.router.seen ≡ s.seen = ap (λ (v : Known Entry). v.seen) (c.announce_daemons.ensures.router ∙ c.announce_lanes.ensures.router) in
    subst (λ (old : List Entry). Ends limits old c.announce_daemons.new.router.seen c.args.lanes.now c.args.daemons.now) c.self.view_is
    (subst (λ (new : List Entry). Ends limits k.seen new c.args.lanes.now c.args.daemons.now) (sym last) ends)
