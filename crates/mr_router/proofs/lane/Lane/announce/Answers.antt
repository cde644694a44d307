use Rattle.std.proofs.Common.{◌≡◌, ◌∙◌, List, ap, sym, subst}
use mathlib.Core.List.{IsPrefix}
use Rattle.mr_book.specs.declared.view.Known.{Known}
use Rattle.mr_book.proofs.Owns.{own_one}
use Rattle.mr_model.specs.declared.entry.Entry.{Entry}
use Rattle.mr_authors.specs.Authors.{author, own, daemon_author}
use Rattle.mr_router.specs.Callers.{LaneValue, lane_sees}
use Rattle.mr_router.specs.Seats.{HoldsLane}
use Rattle.mr_router.proofs.Holding.{lane_sees_more}
use Rattle.mr_router.proofs.lane.Lane.announce.Goals as goal

pub announce-requires-clause-begins : goal.announce-requires-clause-begins
announce-requires-clause-begins g c =
    subst (λ (v : LaneValue). IsPrefix v.seen c.args.from.now.seen) (sym c.self.view_is) c.requires.begins

pub invariant_of-self : goal.invariant_of-self
invariant_of-self g c =
    let l = c.self.inside in
    let k = l.seat in
    let limits = g.C.RunName.limits in
    let h = c.args.from.now.seen in
    let begins : IsPrefix k.seen h = subst (λ (v : LaneValue). IsPrefix v.seen h) (sym c.self.view_is) c.requires.begins in
    let same = own_one author k.owns l.number.0 (own l.number.0 k.seen) h c.self.invariant.seat.owns c.announce.ensures.own in
    subst (HoldsLane limits l.number l.left) (sym c.announce.ensures.into) (lane_sees_more limits l.number l.left k h c.self.invariant begins same)

pub returns-clause-lane : goal.returns-clause-lane
returns-clause-lane g c =
    let l = c.self.inside in
    let h = c.args.from.now.seen in
    let value : Known Entry → LaneValue = λ s. record { lane = l.number; seen = s.seen } in
    ap value c.announce.ensures.into ∙ ap (lane_sees h) c.self.view_is

pub returns-clause-own : goal.returns-clause-own
returns-clause-own g c =
    let l = c.self.inside in
    let k = l.seat in
    let h = c.args.from.now.seen in
    let same = own_one author k.owns l.number.0 (own l.number.0 k.seen) h c.self.invariant.seat.owns c.announce.ensures.own in
    subst (λ (v : LaneValue). own v.lane.0 h ≡ own v.lane.0 v.seen) c.self.view_is same
