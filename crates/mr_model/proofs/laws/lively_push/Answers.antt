use Rattle.mr_model.proofs.PushingFates as lemma
use Rattle.mr_model.proofs.laws.lively_push.Goals as goal

pub returns : goal.returns
returns c = lemma.lively_push
