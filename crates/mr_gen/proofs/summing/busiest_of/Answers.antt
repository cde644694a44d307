use Rattle.std.proofs.Common.{arith}
use Rattle.mr_gen.proofs.Busiest.{one_less}
use Rattle.mr_gen.proofs.summing.busiest_of.Goals as goal

pub loop-left-preserved : goal.loop-left-preserved
loop-left-preserved c =
    let v = c.loop-left.invariant in
    record {
      within = omega (arith, v.within);
      best = one_less c.args.routes.now c.loop-left.left c.loop-left.busiest c.busier-busiest.result _ _ c.loop-left-test.true v.within c.busier-busiest.ensures v.best;
    }
