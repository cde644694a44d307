use Rattle.std.proofs.Common.{◌∙◌, ap, sym, arith}
use Rattle.mr_model.specs.Outcome.{outcome_in}
use Rattle.mr_model.specs.State.{State}
use Rattle.mr_plain.proofs.following.slow_follows.Goals as goal

pub returns-then-l-index : goal.returns-then-l-index
returns-then-l-index c = λ g past is.
    let l = c.in-Some.ensures.some c.args.limits.now g past in
    let same = ap (λ (s : State). outcome_in c.args.limits.now s c.args.flow.now) is in (
      λ yes. record {
        lane_is = l.0;
        room = omega (arith, l.1.left, c.if-l-index.true.0);
        next = omega (arith, l.1.last, c.if-l-index.true.1);
        is_outcome = c.is_outcome.ensures.0 yes ∙ c.outcome.ensures ∙ sym same;
      },
      λ follows. c.is_outcome.ensures.1 (follows.is_outcome ∙ same ∙ sym c.outcome.ensures),
    )
