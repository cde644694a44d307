use Rattle.std.proofs.Common.{◌∙◌, refl, sym, arith}
use Rattle.std.proofs.lemmas.Fn.{says_at}
use Rattle.mr_plain_lists.proofs.Steps.{below, fits, true_false, nothing, smaller, from_start, on_older, on_found, on_end}
use Rattle.mr_plain_lists.proofs.slots.first_from.Goals.{else-slot-via-then-slot+else-test, else-slot-via-else-slot}
use Rattle.mr_plain_lists.proofs.slots.first_from.Goals as goal

pub loop-reach-init : goal.loop-reach-init
loop-reach-init g c = record {
  within = c.requires.from.within;
  last = c.requires.from.last;
  same = λ t answers. from_start c.args.slots.now c.args.from c.args.src c.args.dst t c.requires.from;
}

pub bounds-slots-reach : goal.bounds-slots-reach
bounds-slots-reach g c = omega (arith, c.loop-reach.invariant.within)

pub returns-then-test : goal.returns-then-test
returns-then-test g c = λ t answers.
    on_end _ _ _ _ _ t c.loop-reach-test.true c.loop-reach.invariant.within c.loop-reach.invariant.last c.if-slot.true
    (sym c.if-test.true ∙ answers _ _ (says_at g.F.Fn c.test.ensures refl)) (c.loop-reach.invariant.same t answers)

pub loop-reach-smaller : goal.loop-reach-smaller
loop-reach-smaller g c =
    let less = smaller c.args.slots.now c.loop-reach.reach _ c.requires.linked c.loop-reach-test.true c.loop-reach.invariant.within in
    below _ _ c.loop-reach-test.true less

pub loop-reach-preserved : goal.loop-reach-preserved
loop-reach-preserved g c = record {
  within = fits _ _ _ c.loop-reach.invariant.within (smaller c.args.slots.now c.loop-reach.reach _ c.requires.linked c.loop-reach-test.true c.loop-reach.invariant.within);
  last = on_older _ _ _ _ _ c.requires.linked c.loop-reach-test.true c.loop-reach.invariant.within c.loop-reach.invariant.last;
  same = λ t answers. on_found _ _ _ _ _ t c.requires.linked c.loop-reach-test.true c.loop-reach.invariant.within c.loop-reach.invariant.last
      (elim c.else-slot.branch [
        | else-slot-via-then-slot+else-test w ↦ λ live. sym (answers _ _ (says_at g.F.Fn w.test.ensures refl)) ∙ w.if-test.false
        | else-slot-via-else-slot w ↦ λ live. absurd (true_false (sym live ∙ w.if-slot.false))
      ])
      (c.loop-reach.invariant.same t answers);
}

pub returns : goal.returns
returns g c = λ t answers. nothing _ _ _ c.loop-reach-test.false (c.loop-reach.invariant.same t answers)
