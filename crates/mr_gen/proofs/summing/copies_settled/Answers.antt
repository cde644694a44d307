use Rattle.std.proofs.Common.{◌∙◌, arith}
use Rattle.std.specs.Prelude.{count_ones}
use Rattle.mr_model.specs.declared.entry.FastRecord.{FastRecord}
use Rattle.mr_gen.proofs.Adding.{sum_more}
use Rattle.mr_gen.proofs.summing.copies_settled.Goals as goal

pub loop-place-preserved : goal.loop-place-preserved
loop-place-preserved c =
    let v = c.loop-place.invariant in
    record {
      sum = rw c.ways_of.ensures.ways (sum_more (λ (r : FastRecord). count_ones r.outs.0) c.loop-place.sum c.args.records.now c.loop-place.place c.get.result c.get.ensures ∙ v.sum);
      most = omega (arith, v.most, c.ways_of.ensures.most);
    }
