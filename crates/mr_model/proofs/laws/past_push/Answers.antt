use Rattle.mr_model.proofs.PushingLists as lemma
use Rattle.mr_model.proofs.laws.past_push.Goals as goal

pub returns-clause-controls : goal.returns-clause-controls
returns-clause-controls c = lemma.controls_push

pub returns-clause-phases : goal.returns-clause-phases
returns-clause-phases c = lemma.phases_push

pub returns-clause-packets : goal.returns-clause-packets
returns-clause-packets c = lemma.packets_push

pub returns-clause-index : goal.returns-clause-index
returns-clause-index c = lemma.last_index_push

pub returns-clause-look : goal.returns-clause-look
returns-clause-look c = lemma.last_look_push

pub returns-clause-own : goal.returns-clause-own
returns-clause-own c = lemma.last_own_push

pub returns-clause-end : goal.returns-clause-end
returns-clause-end c = lemma.last_end_push

pub returns-clause-short : goal.returns-clause-short
returns-clause-short c = lemma.ends_short_push

pub returns-clause-before_slow : goal.returns-clause-before_slow
returns-clause-before_slow c = lemma.own_before_slow_push
