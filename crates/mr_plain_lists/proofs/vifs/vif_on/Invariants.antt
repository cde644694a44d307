use Rattle.std.proofs.Common.{◌≡◌, drop}
use Rattle.mr_model.specs.VifList.{vif_on}
use Rattle.mr_plain_lists.proofs.Highest.{joined}
use Rattle.mr_plain_lists.proofs.vifs.vif_on.Given as goal

abbrev pub invariant-loop-v : goal.invariant-loop-v
invariant-loop-v l = joined l.highest (vif_on (drop l.v-index l.vifs) l.dev) ≡ vif_on l.vifs l.dev
