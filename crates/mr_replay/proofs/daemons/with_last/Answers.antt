use Rattle.std.proofs.Common.{◌∙◌, sym}
use Rattle.mr_replay.proofs.Taking.{first_goes_on, first_stops}
use Rattle.mr_replay.proofs.daemons.with_last.Goals as goal

pub returns-then-is_ok-clause-ended : goal.returns-then-is_ok-clause-ended
returns-then-is_ok-clause-ended g c = first_goes_on c.args.others.ended c.args.last.ended (sym c.is_ok.ensures.value ∙ c.if-is_ok.true)

pub returns-else-is_ok-clause-ended : goal.returns-else-is_ok-clause-ended
returns-else-is_ok-clause-ended g c = first_stops c.args.others.ended c.args.last.ended (sym c.is_ok.ensures.value ∙ c.if-is_ok.false)
