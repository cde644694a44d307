use Rattle.mr_lines.proofs.LineLaws.{line_splits}
use Rattle.mr_lines.proofs.laws.line_splits.Goals as goal

pub returns : goal.returns
returns c = line_splits
