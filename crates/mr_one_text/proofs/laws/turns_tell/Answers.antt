use Rattle.mr_one_text.proofs.Telling.{turns_tell}
use Rattle.mr_one_text.proofs.laws.turns_tell.Goals as goal

pub returns : goal.returns
returns c = turns_tell
