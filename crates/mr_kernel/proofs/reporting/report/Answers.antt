use Rattle.mr_kernel.specs.Standing.{attempted}
use Rattle.mr_kernel.proofs.reporting.report.Goals as goal

pub returns-clause-stands : goal.returns-clause-stands
returns-clause-stands c limits s st room =
    c.tell.ensures.stands limits (attempted s c.args.outcome.now)
    (c.attempt.ensures.stands limits s st) room
