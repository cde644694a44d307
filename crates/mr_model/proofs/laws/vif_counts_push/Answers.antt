use Rattle.mr_model.proofs.PushingLists as lemma
use Rattle.mr_model.proofs.laws.vif_counts_push.Goals as goal

pub returns-clause-packets_in : goal.returns-clause-packets_in
returns-clause-packets_in c = lemma.vif_packets_in_push

pub returns-clause-packets_out : goal.returns-clause-packets_out
returns-clause-packets_out c = lemma.vif_packets_out_push

pub returns-clause-bytes_in : goal.returns-clause-bytes_in
returns-clause-bytes_in c = lemma.vif_bytes_in_push

pub returns-clause-bytes_out : goal.returns-clause-bytes_out
returns-clause-bytes_out c = lemma.vif_bytes_out_push
