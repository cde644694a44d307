use Rattle.mr_tables.proofs.Turns as lemma
use Rattle.mr_tables.proofs.laws.legal_changes_fit.Goals as goal

pub returns : goal.returns
returns c = lemma.legal_changes_fit
