use Rattle.mr_fates.proofs.Giving as lemma
use Rattle.mr_fates.proofs.laws.fates_after.Goals as goal

pub returns-clause-parked : goal.returns-clause-parked
returns-clause-parked c = λ limits h lane index look flow l a. lemma.fates_parked limits h lane index look flow l a

pub returns-clause-released : goal.returns-clause-released
returns-clause-released c = lemma.fates_released

pub returns-clause-flushed : goal.returns-clause-flushed
returns-clause-flushed c = lemma.fates_flushed

pub returns-clause-expired : goal.returns-clause-expired
returns-clause-expired c = lemma.fates_expired

pub returns-clause-other : goal.returns-clause-other
returns-clause-other c = lemma.fates_same
