use Rattle.std.proofs.Common.{None, refl}
use Rattle.mr_history.proofs.Bearing.{numbers_of_set}
use Rattle.mr_history.proofs.journal.Journal.gone_vif.Goals as goal

pub returns : goal.returns
returns c = rw (
  ← c.self.view_is,
  numbers_of_set c.self.inside.totals.vifs c.from.result None,
  c.from.ensures,
) refl
