use Rattle.mr_model.proofs.Changing as lemma
use Rattle.mr_model.proofs.change_laws.numbers_rise.Goals as goal

pub returns-clause-rise : goal.returns-clause-rise
returns-clause-rise c = lemma.changes_rise

pub returns-clause-fall : goal.returns-clause-fall
returns-clause-fall c = lemma.routes_fall
