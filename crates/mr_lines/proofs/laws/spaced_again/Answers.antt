use Rattle.mr_lines.proofs.PartLaws.{spaced_again}
use Rattle.mr_lines.proofs.laws.spaced_again.Goals as goal

pub returns : goal.returns
returns c = spaced_again
