use Rattle.std.proofs.Common.{◌≡◌, ◌+◌, drop}
use Rattle.mr_unres.specs.Entries.{packet_count}
use Rattle.mr_unres.specs.Slots.{somes}
use Rattle.mr_unres.proofs.slots.packets_at.Given as goal

abbrev pub invariant-loop-slot : goal.invariant-loop-slot
invariant-loop-slot l = l.count + packet_count (somes (drop l.slot-index l.slots)) ≡ packet_count (somes l.slots)
