use Rattle.std.proofs.Common.{take}
use Rattle.mr_vif.proofs.VifLemmas.{max_small}
use Rattle.mr_vif.proofs.vifs.Vifs.maxvif.Goals as goal

pub returns-clause-small : goal.returns-clause-small
returns-clause-small c = rw c.self.invariant.2.last (max_small (take c.self.inside.count c.self.inside.records) c.self.invariant.1.small)
