use Rattle.mr_gen.specs.Dealt.{lane_dealt}
use Rattle.mr_gen.specs.Generated.{items_of}
use Rattle.mr_gen.proofs.Counting.{flat_more, lanes_more}
use Rattle.mr_gen.proofs.drawing.draw.Goals as goal

pub loop-i-preserved : goal.loop-i-preserved
loop-i-preserved c =
    let v = c.loop-i.invariant in
    record {
      lines = flat_more (items_of c.args.seed c.args.packets) c.loop-i.i c.args.lanes c.loop-i.drawn.items.items _ _ c.loop-i-test.true c.in_ok-held.ensures.lines v.lines;
      lanes = lanes_more (lane_dealt c.args.seed c.args.packets) c.loop-i.i c.args.lanes c.loop-i.drawn.lanes.items _ _ _ c.loop-i-test.true c.in_ok-push.ensures.items c.in_ok-held.ensures.packets v.lanes;
    }
