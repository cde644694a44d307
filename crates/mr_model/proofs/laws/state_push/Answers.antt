use Rattle.mr_model.proofs.Pushing as lemma
use Rattle.mr_model.proofs.laws.state_push.Goals as goal

pub returns-clause-step : goal.returns-clause-step
returns-clause-step c = lemma.state_push

pub returns-clause-count : goal.returns-clause-count
returns-clause-count c = lemma.state_count
