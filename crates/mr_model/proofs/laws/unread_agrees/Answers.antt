use Rattle.mr_model.proofs.Unreading as lemma
use Rattle.mr_model.proofs.laws.unread_agrees.Goals as goal

pub returns-clause-unread : goal.returns-clause-unread
returns-clause-unread c = lemma.unread_agrees

pub returns-clause-within : goal.returns-clause-within
returns-clause-within c = lemma.taken_within

pub returns-clause-splits : goal.returns-clause-splits
returns-clause-splits c = lemma.finish_splits
