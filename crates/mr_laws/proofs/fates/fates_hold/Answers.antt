use Rattle.mr_laws.proofs.FateLines as lemma
use Rattle.mr_laws.proofs.fates.fates_hold.Goals as goal

pub returns-clause-hold : goal.returns-clause-hold
returns-clause-hold c = lemma.fates_hold

pub returns-clause-one : goal.returns-clause-one
returns-clause-one c = lemma.one_line
