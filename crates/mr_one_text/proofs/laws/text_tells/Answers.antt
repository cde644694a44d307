use Rattle.mr_one_text.proofs.Reading.{text_tells}
use Rattle.mr_one_text.proofs.laws.text_tells.Goals as goal

pub returns : goal.returns
returns c = text_tells
