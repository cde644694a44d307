use Rattle.std.proofs.Common.{◌≡◌, true, subst}
use Rattle.mr_model.specs.declared.outcome.Outcome.{Outcome}
use Rattle.mr_kernel.specs.Standing.{tells}
use Rattle.mr_kernel.proofs.Judging.{judged_room}
use Rattle.mr_kernel.proofs.releasing.free.Goals as goal

pub returns-clause-stands : goal.returns-clause-stands
returns-clause-stands c limits s st there =
    c.report.ensures.stands limits s st (λ so.
    judged_room s c.args.route.now c.args.packet.dev c.args.packet.head.ttl
    (subst (λ (o : Outcome). tells o ≡ true) (c.judge-outcome.ensures limits s st there) so))
