use Rattle.std.proofs.Common.{◌≡◌, drop}
use Rattle.mr_model.specs.VifList.{vif_at}
use Rattle.mr_plain_lists.proofs.vifs.vif_at.Given as goal

abbrev pub invariant-loop-v : goal.invariant-loop-v
invariant-loop-v l = vif_at (drop l.v-index l.vifs) l.index ≡ vif_at l.vifs l.index
