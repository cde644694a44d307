use Rattle.std.proofs.Common.{◌≡◌, sym, ap, ◌∙◌}
use Rattle.mr_kernel.proofs.Lists.{attempt_stands, absent_stands}
use Rattle.mr_kernel.proofs.reporting.attempt.Goals as goal

pub returns-in-Some-get-clause-stands : goal.returns-in-Some-get-clause-stands
returns-in-Some-get-clause-stands c limits s st =
    attempt_stands limits s c.args.live.now c.args.outcome.now c.in-Some.entry c.set.new.self st
    (c.in-Some.ensures s.now)
    c.facts.ensures.falling c.set.ensures.items c.set.ensures.room

pub returns-in-None-clause-stands : goal.returns-in-None-clause-stands
returns-in-None-clause-stands c limits s st =
    absent_stands limits s c.args.live.now c.args.outcome.now c.in-Some.entry st
    (c.in-Some.ensures s.now) (sym c.in-None.ensures)
