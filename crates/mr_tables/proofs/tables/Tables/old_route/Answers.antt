use Rattle.std.proofs.Common.{arith}
use Rattle.mr_tables.proofs.Found.{parents_changed}
use Rattle.mr_tables.proofs.tables.Tables.old_route.Goals as goal

pub invariant_of-self : goal.invariant_of-self
invariant_of-self c = (
  c.self.invariant.0,
  rw c.change.ensures.routes (parents_changed _ _ _ _ _ (omega arith) c.self.invariant.1),
)
