use Rattle.mr_lines.proofs.LineLaws.{line_clean}
use Rattle.mr_lines.proofs.laws.line_clean.Goals as goal

pub returns : goal.returns
returns c = line_clean
