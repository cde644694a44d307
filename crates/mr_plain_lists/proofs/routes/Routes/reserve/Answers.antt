use Rattle.mr_plain_lists.proofs.Fading.{indexed_same}
use Rattle.mr_plain_lists.proofs.routes.Routes.reserve.Goals as goal

pub invariant_of-self-2 : goal.invariant_of-self-2
invariant_of-self-2 c = rw c.reserve.ensures.items (indexed_same _ _ _ _ c.self.invariant c.reserve-2.ensures.entries.2)
