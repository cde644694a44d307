use Rattle.std.proofs.Common.{nat_lt, get_or, ap, ℕ, take}
use Rattle.mr_base.specs.declared.numbers.Mask.{Mask}
use Rattle.mr_vif.proofs.MaskLemmas.{meet}
use Rattle.mr_vif.proofs.vifs.Vifs.outs.Goals as goal

pub returns : goal.returns
returns c = rw (← c.self.view_is, c.self.invariant.2.mask)
    (ap {A = ℕ} {B = Mask} (λ (n : ℕ). record { 0 = n }) (meet (λ i. nat_lt (get_or c.args.ttls.now i 255) c.args.ttl) c.sends.result
    (take c.self.inside.count c.self.inside.records) c.sends.ensures.bits))
