use Rattle.mr_lines.proofs.LineLaws.{line_takes}
use Rattle.mr_lines.proofs.laws.line_takes.Goals as goal

pub returns : goal.returns
returns c = line_takes
