use Rattle.mr_lines.proofs.LineLaws.{line_again}
use Rattle.mr_lines.proofs.laws.line_again.Goals as goal

pub returns : goal.returns
returns c = line_again
