use Rattle.mr_laws.proofs.OneFate as lemma
use Rattle.mr_laws.proofs.fates.one_fate.Goals as goal

pub returns-clause-has : goal.returns-clause-has
returns-clause-has c = λ limits h lane index l p. lemma.fate_has limits lane index h l p

pub returns-clause-only : goal.returns-clause-only
returns-clause-only c = λ limits h lane index f l is. (lemma.fate_only limits h lane index f l is).1

pub returns-clause-parked : goal.returns-clause-parked
returns-clause-parked c = λ limits h lane index f l is. (lemma.fate_only limits h lane index f l is).0
