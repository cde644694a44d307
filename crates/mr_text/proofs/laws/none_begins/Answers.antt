use Rattle.mr_text.proofs.TextLaws.{none_law}
use Rattle.mr_text.proofs.laws.none_begins.Goals as goal

pub returns : goal.returns
returns c = none_law
