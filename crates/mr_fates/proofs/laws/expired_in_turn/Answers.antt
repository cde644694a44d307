use Rattle.mr_fates.proofs.Giving as lemma
use Rattle.mr_fates.proofs.laws.expired_in_turn.Goals as goal

pub returns-clause-next : goal.returns-clause-next
returns-clause-next c = lemma.expired_first

pub returns-clause-none : goal.returns-clause-none
returns-clause-none c = lemma.expired_none
