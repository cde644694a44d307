use Rattle.std.proofs.Common.{◌++◌, decimal, ap, ◌∙◌, arith}
use Rattle.mr_records.proofs.TakingLemmas.{digit_on}
use Rattle.mr_records.proofs.numbers.digits.Goals as goal

pub digits-preserved : goal.digits-preserved
digits-preserved c =
    let l = c.digits in
    let d = c.in-Some in
    record {
      text = l.invariant.text ∙ ap (λ x. decimal l.value ++ x) d.ensures.1 ∙ digit_on l.value d.next d.after.now l.invariant.some c.digits-test.true d.ensures.0;
      some = omega arith;
      short = omega (arith, d.ensures.0);
    }
