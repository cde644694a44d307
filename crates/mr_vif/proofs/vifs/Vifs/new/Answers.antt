use Rattle.std.proofs.Common.{arith}
use Rattle.mr_vif.proofs.KeepLemmas.{no_vifs}
use Rattle.mr_vif.proofs.vifs.Vifs.new.Goals as goal

pub invariant_of-result : goal.invariant_of-result
invariant_of-result c = (omega arith, no_vifs, c.new.ensures)
