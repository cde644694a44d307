use Rattle.mr_model.proofs.Changing as lemma
use Rattle.mr_model.proofs.change_laws.changes_make_tables.Goals as goal

pub returns-clause-all : goal.returns-clause-all
returns-clause-all c = lemma.changes_make_tables

pub returns-clause-first : goal.returns-clause-first
returns-clause-first c = lemma.changes_first

pub returns-clause-up_to : goal.returns-clause-up_to
returns-clause-up_to c = lemma.changes_up_to
