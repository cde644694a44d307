use Rattle.mr_tables.proofs.History as lemma
use Rattle.mr_tables.proofs.laws.number_is_above.Goals as goal

pub returns : goal.returns
returns c = lemma.number_is_above
