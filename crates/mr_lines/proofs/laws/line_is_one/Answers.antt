use Rattle.mr_lines.proofs.LineLaws.{line_is_one}
use Rattle.mr_lines.proofs.laws.line_is_one.Goals as goal

pub returns : goal.returns
returns c = line_is_one
