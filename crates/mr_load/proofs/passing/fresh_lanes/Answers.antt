use Rattle.std.proofs.Common.{refl, rules}
use Rattle.mr_load.specs.Passing.{IsFresh}
use Rattle.mr_load.proofs.EachLane.{each_push}
use Rattle.mr_load.proofs.LanePasses.{fresh_one}
use Rattle.mr_load.proofs.passing.fresh_lanes.Goals as goal

pub loop-i-preserved : goal.loop-i-preserved
loop-i-preserved c = record {
  fresh = rw c.in_ok-push.ensures.items
      (each_push IsFresh 1 c.loop-i.fresh.items _ c.loop-i.invariant.fresh
      (fresh_one _ c.loop-i.i c.loop-i.fresh.items c.loop-i.invariant.count c.new.ensures c.new-in-loop-i.ensures.items c.new-in-loop-i-2.ensures.items refl));
  count = search rules;
}
