use Rattle.mr_plain_lists.proofs.Steps.{fits, below, smaller, past}
use Rattle.mr_plain_lists.proofs.slots.past_gone.Goals as goal

pub loop-reach-smaller : goal.loop-reach-smaller
loop-reach-smaller c = below _ _ c.loop-reach-test.true (smaller _ _ _ c.requires.linked c.loop-reach-test.true c.loop-reach.invariant.within)

pub loop-reach-preserved : goal.loop-reach-preserved
loop-reach-preserved c = record {
  within = fits _ _ _ c.loop-reach.invariant.within (smaller c.args.slots.now c.loop-reach.reach _ c.requires.linked c.loop-reach-test.true c.loop-reach.invariant.within);
  leads = λ src dst leads. past _ _ _ src dst c.requires.linked c.loop-reach-test.true c.loop-reach.invariant.within c.if-slot.false (c.loop-reach.invariant.leads src dst leads);
}
