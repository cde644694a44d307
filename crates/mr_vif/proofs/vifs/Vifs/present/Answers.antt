use Rattle.std.proofs.Common.{take}
use Rattle.mr_vif.proofs.MaskLemmas.{mask_bit}
use Rattle.mr_vif.proofs.vifs.Vifs.present.Goals as goal

pub returns-clause-bits : goal.returns-clause-bits
returns-clause-bits c = rw (← c.self.view_is, c.self.invariant.2.mask) (mask_bit (take c.self.inside.count c.self.inside.records))
