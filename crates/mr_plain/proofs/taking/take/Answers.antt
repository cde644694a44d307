use Rattle.std.proofs.Common.{◌≡◌, ◌∙◌, ap, arith}
use Rattle.mr_model.specs.State.{State}
use Rattle.mr_plain_lists.specs.Knowing.{state_of}
use Rattle.mr_plain.proofs.Keeping.{effect_count}
use Rattle.mr_plain.proofs.taking.take.Goals as goal

pub overflow_add-known : goal.overflow_add-known
overflow_add-known c =
    let same : c.apply.new.known.count ≡ c.args.known.now.count =
    ap (λ (s : State). s.count) c.apply.ensures.state ∙ effect_count c.args.limits.now (state_of c.args.known.now) c.args.entry.now in
    omega (arith, same, c.requires.count)
