use Rattle.mr_text.proofs.TextLaws.{one_law}
use Rattle.mr_text.proofs.laws.one_text.Goals as goal

pub returns : goal.returns
returns c = one_law
