use Rattle.std.proofs.Common.{arith}
use Rattle.mr_unres.specs.Slots.{somes}
use Rattle.mr_unres.proofs.Ordered.{count_few}
use Rattle.mr_unres.proofs.waiting.Waiting.flush.Goals as goal

pub packet_count-dropped-requires : goal.packet_count-dropped-requires
packet_count-dropped-requires c = omega (arith, count_few (somes c.self.inside.slots.items) c.self.invariant.few)
