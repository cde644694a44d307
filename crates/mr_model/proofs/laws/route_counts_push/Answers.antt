use Rattle.mr_model.proofs.PushingLists as lemma
use Rattle.mr_model.proofs.laws.route_counts_push.Goals as goal

pub returns-clause-packets : goal.returns-clause-packets
returns-clause-packets c = lemma.route_packets_push

pub returns-clause-bytes : goal.returns-clause-bytes
returns-clause-bytes c = lemma.route_bytes_push

pub returns-clause-wrong : goal.returns-clause-wrong
returns-clause-wrong c = lemma.route_wrong_push
