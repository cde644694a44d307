use Rattle.mr_records.proofs.HeadLemmas.{first_look}
use Rattle.mr_records.proofs.heads.Look.first.Goals as goal

pub invariant_of-result-2 : goal.invariant_of-result-2
invariant_of-result-2 c = record { spelled = first_look }
