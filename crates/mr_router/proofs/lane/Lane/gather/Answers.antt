use Rattle.std.proofs.Common.{◌≡◌, ◌∙◌, ap, sym, subst}
use mathlib.Core.List.{IsPrefix}
use Rattle.mr_book.specs.declared.view.Known.{Known}
use Rattle.mr_model.specs.declared.entry.Entry.{Entry}
use Rattle.mr_router.specs.Callers.{LaneValue}
use Rattle.mr_router.specs.Seats.{HoldsLane}
use Rattle.mr_router.proofs.lane.Lane.gather.Goals as goal

pub invariant_of-self : goal.invariant_of-self
invariant_of-self g c =
    subst (HoldsLane g.C.RunName.limits c.self.inside.number c.self.inside.left) (sym c.gather.ensures.from) c.self.invariant

pub returns-clause-lane : goal.returns-clause-lane
returns-clause-lane g c =
    let l = c.self.inside in
    let value : Known Entry → LaneValue = λ s. record { lane = l.number; seen = s.seen } in
    ap value c.gather.ensures.from ∙ c.self.view_is

pub returns-clause-all_of_lane : goal.returns-clause-all_of_lane
returns-clause-all_of_lane g c =
    subst (λ (v : LaneValue). IsPrefix v.seen c.gather.new.into.seen) c.self.view_is c.gather.ensures.all_of_from
