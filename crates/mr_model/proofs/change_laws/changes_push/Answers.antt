use Rattle.mr_model.proofs.Changing as lemma
use Rattle.mr_model.proofs.change_laws.changes_push.Goals as goal

pub returns : goal.returns
returns c = lemma.changes_push
