use Rattle.std.proofs.Common.{◌∙◌, arith}
use Rattle.mr_ip.proofs.Sums.{length-behind, AreBytes-behind, ones_sum-behind}
use Rattle.mr_ip.proofs.sum.ones_sum.Goals as goal

pub loop-rest-preserved : goal.loop-rest-preserved
loop-rest-preserved c =
    let rest = c.loop-rest.rest.now in
    let long = c.in-len4-up.len_at_least in
    let small = c.loop-rest.invariant.small in
    let shorter = length-behind rest long in
    record {
      whole = omega arith;
      fits = omega arith;
      small = AreBytes-behind rest long small;
      same = ones_sum-behind c.loop-rest.sum _ rest long small (c.from-sum.ensures ∙ c.four_of.ensures)
          ∙ c.loop-rest.invariant.same;
    }
