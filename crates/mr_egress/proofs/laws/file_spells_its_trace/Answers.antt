use Rattle.mr_egress.proofs.Whole.{spells}
use Rattle.mr_egress.proofs.laws.file_spells_its_trace.Goals as goal

pub returns : goal.returns
returns c = spells
