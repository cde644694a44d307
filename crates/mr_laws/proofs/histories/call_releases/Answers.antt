use Rattle.mr_model.proofs.Induction as lemma
use Rattle.mr_laws.proofs.histories.call_releases.Goals as goal

pub returns-clause-good : goal.returns-clause-good
returns-clause-good c = lemma.good_released

pub returns-clause-other : goal.returns-clause-other
returns-clause-other c = lemma.bad_released
