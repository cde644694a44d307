use Rattle.mr_tables.proofs.History as lemma
use Rattle.mr_tables.proofs.laws.changes_apply.Goals as goal

pub returns-clause-all : goal.returns-clause-all
returns-clause-all c = lemma.changes_apply

pub returns-clause-first : goal.returns-clause-first
returns-clause-first c = lemma.first_changes_apply
