use Rattle.mr_model.specs.VifList.{vif_at}
use Rattle.mr_egress.specs.Copies.{leads_to}
use Rattle.mr_egress.proofs.Bits.{HasBelow}
use Rattle.mr_egress.proofs.place.ways_of.Given as goal

abbrev pub invariant-loop-vif : goal.invariant-loop-vif
invariant-loop-vif l = HasBelow (λ i. leads_to l.device (vif_at l.vifs i)) l.vif l.ways
