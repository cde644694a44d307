use Rattle.mr_text.proofs.TextLaws.{read_law}
use Rattle.mr_text.proofs.laws.read_is_text.Goals as goal

pub returns : goal.returns
returns c = read_law
