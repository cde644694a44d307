use Rattle.mr_model.proofs.PushingFates as lemma
use Rattle.mr_model.proofs.laws.unfolded_push.Goals as goal

pub returns-clause-fast : goal.returns-clause-fast
returns-clause-fast c = lemma.fast_at_push

pub returns-clause-kept : goal.returns-clause-kept
returns-clause-kept c = lemma.unfolded_push

pub returns-clause-legal : goal.returns-clause-legal
returns-clause-legal c = lemma.unfolded_legal_push
