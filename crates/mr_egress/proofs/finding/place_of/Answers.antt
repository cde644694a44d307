use Rattle.std.proofs.Common.{◌∙◌, ◌<◌, sym, arith, length}
use Rattle.mr_egress.proofs.Indexes.{all_above, all_below, at_place, found, none_between, strictly}
use Rattle.mr_egress.proofs.finding.place_of.Goals as goal
use Rattle.mr_egress.proofs.finding.place_of.Goals.{then-packet-index-2, else-packet-index-2}

pub returns-then-packet-index-clause-found : goal.returns-then-packet-index-clause-found
returns-then-packet-index-clause-found c =
    let ps = c.args.lane.now.packets in
    let within : c.min-place.result < length ps =
    omega (arith, c.min-place.ensures, c.search-test.true, c.search.invariant.within) in
    let here = at_place ps c.min-place.result within in
    let packet = rw here.1 at c.packet-packet.ensures in
    found c.args.index 0 0 ps c.min-place.result here.0 c.search.invariant.due.rise here.1
    (sym packet.index ∙ c.if-packet-index.true)

pub search-preserved : goal.search-preserved
search-preserved c =
    let ps = c.args.lane.now.packets in
    let v = c.search.invariant in
    let within : c.min-place.result < length ps =
    omega (arith, c.min-place.ensures, c.search-test.true, v.within) in
    let here = at_place ps c.min-place.result within in
    let packet = rw here.1 at c.packet-packet.ensures in
    elim c.if-packet-index-2.branch [
      | then-packet-index-2 w ↦ record {
        due = v.due;
        below = rw w.low-is (all_below c.args.index 0 0 ps c.min-place.result here.0 v.due.rise here.1
            (omega (arith, packet.index, w.if-packet-index-2.true)));
        above = rw w.high-is v.above;
        within = rw w.high-is v.within;
        guess = omega arith;
      }
      | else-packet-index-2 w ↦ record {
        due = v.due;
        below = rw w.low-is v.below;
        above = rw w.high-is (all_above c.args.index 0 0 ps c.min-place.result here.0 v.due.rise here.1
            (strictly _ _ _ packet.index w.if-packet-index-2.false c.if-packet-index.false));
        within = omega (arith, w.high-is, within);
        guess = omega arith;
      }
    ]

pub returns-clause-none : goal.returns-clause-none
returns-clause-none c =
    none_between c.args.index c.args.lane.now.packets c.search.low c.search.high
    c.search.invariant.below c.search.invariant.above c.search-test.false
