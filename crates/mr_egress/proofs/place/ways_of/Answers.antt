use Rattle.std.proofs.Common.{◌∙◌, ap, ℕ, Bool}
use Rattle.mr_model.specs.VifList.{vif_at}
use Rattle.mr_egress.specs.Copies.{leads_to}
use Rattle.mr_egress.proofs.Bits.{next_bit}
use Rattle.mr_egress.proofs.place.ways_of.Goals as goal

pub loop-vif-preserved : goal.loop-vif-preserved
loop-vif-preserved c =
    let test : ℕ → Bool = λ i. leads_to c.args.device (vif_at c.args.vifs.now i) in
    rw c.with_vif-ways.ensures (next_bit test c.loop-vif.vif c.loop-vif.ways c.leads_to-leads.result
    c.loop-vif.invariant (c.leads_to-leads.ensures ∙ ap (leads_to c.args.device) c.record.ensures))
