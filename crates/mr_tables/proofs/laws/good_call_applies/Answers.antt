use Rattle.mr_tables.proofs.History as lemma
use Rattle.mr_tables.proofs.laws.good_call_applies.Goals as goal

pub returns : goal.returns
returns c = lemma.good_call_applies
