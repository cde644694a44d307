use Rattle.mr_model.proofs.Pushing as lemma
use Rattle.mr_model.proofs.laws.legal_within.Goals as goal

pub returns-clause-agrees : goal.returns-clause-agrees
returns-clause-agrees c = lemma.legal_at

pub returns-clause-front : goal.returns-clause-front
returns-clause-front c = lemma.legal_front
