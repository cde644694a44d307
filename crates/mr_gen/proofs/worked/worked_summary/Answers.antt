use lib.Count.{ones}
use Rattle.std.proofs.Common.{refl}
use Rattle.std.specs.Fmt.{digits}
use Rattle.mr_gen.proofs.worked.worked_summary.Goals as goal

pub returns-clause-text : goal.returns-clause-text
unfolding ones digits
returns-clause-text c = refl
