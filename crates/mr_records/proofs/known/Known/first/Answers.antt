use Rattle.mr_records.proofs.WayLemmas.{first_bytes}
use Rattle.mr_records.proofs.known.Known.first.Goals as goal

pub invariant_of-result-2 : goal.invariant_of-result-2
invariant_of-result-2 c = record { spelled = first_bytes }
