use Rattle.mr_records.proofs.HeadLemmas.{first_hundreds}
use Rattle.mr_records.proofs.heads.Hundreds.first.Goals as goal

pub invariant_of-result-2-clause-spelled : goal.invariant_of-result-2-clause-spelled
invariant_of-result-2-clause-spelled c = first_hundreds
