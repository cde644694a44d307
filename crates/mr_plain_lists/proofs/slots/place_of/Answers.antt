use Rattle.mr_plain_lists.proofs.Steps.{true_false}
use Rattle.mr_plain_lists.proofs.Editing.{newest_here, none_on, differs}
use Rattle.mr_plain_lists.proofs.slots.place_of.Goals.{else-slot-via-then-slot+else-slot-number, else-slot-via-else-slot}
use Rattle.mr_plain_lists.proofs.slots.place_of.Goals as goal
use Rattle.std.proofs.Common.{◌∙◌, sym, arith}

pub returns-then-slot-number-clause-some : goal.returns-then-slot-number-clause-some
returns-then-slot-number-clause-some c =
    newest_here _ _ _ _ c.loop-reach-test.true c.loop-reach.invariant.within c.if-slot.true c.if-slot-number.true c.loop-reach.invariant.none

pub loop-reach-preserved : goal.loop-reach-preserved
loop-reach-preserved c = record {
  within = omega (arith, c.loop-reach.invariant.within);
  none = none_on _ _ _ _ c.loop-reach-test.true c.loop-reach.invariant.within
      (elim c.else-slot.branch [
        | else-slot-via-then-slot+else-slot-number w ↦ λ live. differs _ _ w.if-slot-number.false
        | else-slot-via-else-slot w ↦ λ live. absurd (true_false (sym live ∙ w.if-slot.false))
      ])
      c.loop-reach.invariant.none;
}
