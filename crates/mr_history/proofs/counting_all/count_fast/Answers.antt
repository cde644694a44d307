use Rattle.mr_history.proofs.Gathering.{same_both, fast_step, fast_short}
use Rattle.mr_history.proofs.counting_all.count_fast.Goals as goal

pub loop-fast-preserved : goal.loop-fast-preserved
loop-fast-preserved c =
    let v = c.loop-fast.invariant in
    record {
      sums = fast_step _ _ _ c.args.records.now c.loop-fast.fast-index _ _ c.loop-fast-test.true
          c.met_fast-met.ensures.value v.sums c.count.ensures.sums;
      short = fast_short c.args.records.now c.loop-fast.fast-index _ _ c.loop-fast-test.true
          c.met_fast-met.ensures.value v.short c.met_fast-met.ensures.short;
      same = same_both _ _ _ v.same c.count.ensures.same;
    }
