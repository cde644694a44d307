use Rattle.mr_mfc.proofs.Falling.{first_below, next_below}
use Rattle.mr_mfc.proofs.laws.walk_below.Goals as goal

pub returns-clause-first : goal.returns-clause-first
returns-clause-first c = first_below

pub returns-clause-next : goal.returns-clause-next
returns-clause-next c = next_below
