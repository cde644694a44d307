use Rattle.std.proofs.Common.{◌≡◌, length}
use Rattle.mr_model.specs.VifList.{vif_on}
use Rattle.mr_vif.proofs.VifLemmas.{joined}
use Rattle.mr_vif.proofs.vifs.highest_on.Given as goal

abbrev pub invariant-vifs : goal.invariant-vifs
invariant-vifs l = joined l.highest (vif_on l.rest l.dev) ≡ vif_on l.vifs l.dev

abbrev pub decreases-vifs : goal.decreases-vifs
decreases-vifs l = length l.rest
