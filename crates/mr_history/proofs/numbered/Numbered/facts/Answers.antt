use Rattle.mr_history.proofs.Numbering.{falling_reverse}
use Rattle.mr_history.proofs.numbered.Numbered.facts.Goals as goal

pub returns-clause-falling : goal.returns-clause-falling
returns-clause-falling g c = rw (← c.self.view_is) (falling_reverse _ c.self.invariant.0)
