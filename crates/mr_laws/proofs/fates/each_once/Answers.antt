use Rattle.mr_laws.proofs.Once as lemma
use Rattle.mr_laws.proofs.fates.each_once.Goals as goal

pub returns-clause-parked : goal.returns-clause-parked
returns-clause-parked c = lemma.parked_once

pub returns-clause-waits : goal.returns-clause-waits
returns-clause-waits c = lemma.waits_once

pub returns-clause-released : goal.returns-clause-released
returns-clause-released c = lemma.released_once

pub returns-clause-waited : goal.returns-clause-waited
returns-clause-waited c = lemma.released_waited
