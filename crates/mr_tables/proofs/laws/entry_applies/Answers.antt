use Rattle.mr_tables.proofs.History as lemma
use Rattle.mr_tables.proofs.laws.entry_applies.Goals as goal

pub returns : goal.returns
returns c = lemma.entry_applies
