use Rattle.std.proofs.Common.{arith}
use Rattle.mr_vif.proofs.MaskLemmas.{below_bit}
use Rattle.mr_vif.proofs.masks.sends.Goals as goal

pub returns : goal.returns
returns c = record { bits = λ i. rw c.bits_below.ensures (below_bit c.args.ttls.now c.args.ttl i (omega arith) (omega arith)) }
