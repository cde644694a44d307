use Rattle.std.proofs.Common.{sym, ap, ◌∙◌}
use Rattle.std.specs.Prelude.{option_map}
use Rattle.mr_load.proofs.LanePasses.{frame_on}
use Rattle.mr_load.proofs.passing.pass_trace.Goals as goal
use Rattle.mr_pcap.specs.Places.{captured}

pub loop-i-preserved : goal.loop-i-preserved
loop-i-preserved c =
    frame_on c.args.phase c.args.item.now c.args.trace.now c.loop-i.i (captured c.in-Some.record) c.args.passed.now c.loop-i.passed c.pass_frame.new.passed
    (sym c.record.ensures ∙ ap (option_map captured) c.in-Some.is) c.loop-i.invariant (rw c.link.ensures at c.in_ok-pass_frame.ensures)
