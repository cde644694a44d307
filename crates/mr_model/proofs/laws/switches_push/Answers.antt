use Rattle.mr_model.proofs.PushingLists as lemma
use Rattle.mr_model.proofs.laws.switches_push.Goals as goal

pub returns : goal.returns
returns c = lemma.switches_push
