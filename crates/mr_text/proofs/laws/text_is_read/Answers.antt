use Rattle.mr_text.proofs.TextLaws.{text_law}
use Rattle.mr_text.proofs.laws.text_is_read.Goals as goal

pub returns : goal.returns
returns c = text_law
