use Rattle.std.proofs.Common.{◌≡◌, ◌++◌, drop}
use Rattle.mr_plain_lists.specs.Indexed.{oldest_first}
use Rattle.mr_plain_lists.proofs.slots.live_routes.Given as goal

abbrev pub invariant-loop-slot : goal.invariant-loop-slot
invariant-loop-slot l = l.routes.items ++ oldest_first (drop l.slot-index l.slots) ≡ oldest_first l.slots
