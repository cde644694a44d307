use Rattle.std.proofs.Common.{◌≡◌, drop, max}
use Rattle.mr_model.specs.VifList.{max_vif}
use Rattle.mr_plain_lists.proofs.vifs.max_vif.Given as goal

abbrev pub invariant-loop-v : goal.invariant-loop-v
invariant-loop-v l = max l.end (max_vif (drop l.v-index l.vifs)) ≡ max_vif l.vifs
