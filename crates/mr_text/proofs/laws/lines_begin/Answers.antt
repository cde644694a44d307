use Rattle.mr_text.proofs.Pieces.{begins_with}
use Rattle.mr_text.proofs.TextLaws.{begin_law}
use Rattle.mr_text.proofs.laws.lines_begin.Goals as goal

pub returns-clause-text : goal.returns-clause-text
returns-clause-text c = begin_law

pub returns-clause-bytes : goal.returns-clause-bytes
returns-clause-bytes c = begins_with
