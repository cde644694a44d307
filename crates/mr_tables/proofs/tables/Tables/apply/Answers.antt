use Rattle.mr_tables.proofs.Found.{parents_removed, parents_left}
use Rattle.mr_tables.proofs.tables.Tables.apply.Goals as goal

pub invariant_of-self-in-DropRoute : goal.invariant_of-self-in-DropRoute
invariant_of-self-in-DropRoute c = (
  c.self-in-DropRoute.invariant.0,
  rw c.remove-in-DropRoute.ensures.routes (parents_removed _ _ c.self-in-DropRoute.invariant.1),
)

pub invariant_of-self-in-Flush : goal.invariant_of-self-in-Flush
invariant_of-self-in-Flush c = (
  c.self-in-Flush.invariant.0,
  rw c.flush-in-Flush.ensures.routes (parents_left _ _ _ c.self-in-Flush.invariant.1),
)
