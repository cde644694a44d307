use Rattle.std.proofs.Common.{◌≡◌, drop}
use Rattle.mr_model.specs.VifList.{register_vif}
use Rattle.mr_plain_lists.proofs.vifs.register_vif.Given as goal

abbrev pub invariant-loop-v : goal.invariant-loop-v
invariant-loop-v l = register_vif (drop l.v-index l.vifs) ≡ register_vif l.vifs
