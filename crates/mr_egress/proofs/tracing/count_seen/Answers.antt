use Rattle.std.proofs.Common.{arith}
use Rattle.mr_egress.proofs.Merging.{front_all, front_ends, look_more}
use Rattle.mr_egress.proofs.tracing.count_seen.Goals as goal

pub loop-one-preserved : goal.loop-one-preserved
loop-one-preserved c =
    let v = c.loop-one.invariant in
    record {
      count = omega (arith, v.count);
      all = look_more c.args.look c.args.sorted.now c.loop-one.one-index _ v.all c.loop-one-test.true c.if-one-look.false;
    }

pub returns-then-one-look-clause-front : goal.returns-then-one-look-clause-front
returns-then-one-look-clause-front c =
    let v = c.loop-one.invariant in
    rw v.count (front_ends c.args.look c.args.sorted.now c.loop-one.one-index _ c.requires.sorted c.requires.from v.all
    c.if-one-look.true)

pub returns-clause-front : goal.returns-clause-front
returns-clause-front c =
    let v = c.loop-one.invariant in
    rw v.count (front_all c.args.look c.args.sorted.now c.loop-one.one-index c.requires.sorted v.all c.loop-one-test.false)
