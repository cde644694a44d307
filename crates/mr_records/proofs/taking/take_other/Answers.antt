use Rattle.mr_records.proofs.TakingLemmas.{record_first}
use Rattle.mr_records.proofs.taking.take_other.Goals as goal

pub returns-in_ok-push-in-Some : goal.returns-in_ok-push-in-Some
returns-in_ok-push-in-Some c =
    (c.in-Some.record, record_first c.in-Some.record c.args.text.now c.in-Some.rest.now c.in-Some.ensures.fits c.in-Some.ensures.line, c.in_ok-push-in-Some.ensures.items)
