use Rattle.mr_fates.proofs.Ending as lemma
use Rattle.mr_fates.proofs.laws.fates_push.Goals as goal

pub returns : goal.returns
returns c = lemma.fates_push
