use Rattle.mr_check.proofs.Law.{right_is_run}
use Rattle.mr_check.proofs.laws.right_is_run.Goals as goal

pub returns : goal.returns
returns c = right_is_run
