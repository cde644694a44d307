use Rattle.mr_egress.proofs.Whole.{copy_is_whole}
use Rattle.mr_egress.proofs.laws.copy_is_whole.Goals as goal

pub returns : goal.returns
returns c = copy_is_whole
