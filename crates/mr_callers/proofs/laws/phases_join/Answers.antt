use Rattle.mr_callers.proofs.Joined.{drives_joined, joined}
use Rattle.mr_callers.proofs.laws.phases_join.Goals as goal

pub returns-clause-made : goal.returns-clause-made
returns-clause-made c = joined

pub returns-clause-drives : goal.returns-clause-drives
returns-clause-drives c = drives_joined
