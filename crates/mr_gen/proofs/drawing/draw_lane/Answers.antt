use Rattle.std.proofs.Common.{◌+◌, arith, ap, ◌∙◌}
use Rattle.mr_gen.proofs.Counting.{behind_more, dealt_more, lines_more}
use Rattle.mr_gen.proofs.drawing.draw_lane.Goals as goal

pub loop-i-preserved : goal.loop-i-preserved
loop-i-preserved c =
    let v = c.loop-i.invariant in
    let p = c.in_ok-push_packet.ensures in
    record {
      most = omega arith;
      lane = ap (λ l. l.lane) p.packet ∙ v.lane;
      behind = behind_more (c.loop-i.i + 1) c.next_word-word.result c.loop-i.held.packets _ (ap (λ l. l.packets) p.packet) v.behind;
      packets = dealt_more _ _ c.loop-i.i c.args.packets c.next_word-word.result c.loop-i.held.packets _ _ c.loop-i-test.true (ap (λ l. l.packets) p.packet) c.next_word-word.ensures v.packets;
      lines = lines_more _ _ c.args.lane c.loop-i.i c.args.packets c.next_word-word.result c.loop-i.items.items _ _ c.loop-i-test.true (rw v.lane at p.line) c.next_word-word.ensures v.lines;
    }
