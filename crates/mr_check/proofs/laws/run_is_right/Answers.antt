use Rattle.mr_check.proofs.Back.{run_is_right}
use Rattle.mr_check.proofs.laws.run_is_right.Goals as goal

pub returns : goal.returns
returns c = run_is_right
