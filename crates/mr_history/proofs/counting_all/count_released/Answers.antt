use Rattle.std.proofs.Common.{◌<◌, length}
use Rattle.mr_history.proofs.Gathering.{same_both, released_step, released_short}
use Rattle.mr_history.proofs.counting_all.count_released.Goals as goal

pub loop-i-preserved : goal.loop-i-preserved
loop-i-preserved c =
    let v = c.loop-i.invariant in
    let inside : c.loop-i.i < length c.args.lengths.now = rw c.requires c.loop-i-test.true in
    record {
      sums = released_step _ _ _ c.args.place c.args.released.now c.args.lengths.now c.loop-i.i _
          _ c.loop-i-test.true inside v.sums c.count_outcome.ensures.sums;
      short = released_short c.args.place c.args.released.now c.args.lengths.now c.loop-i.i _ _
          c.loop-i-test.true inside v.short c.count_outcome.ensures.short;
      same = same_both _ _ _ v.same c.count_outcome.ensures.same;
    }
