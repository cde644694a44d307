use Rattle.std.proofs.Common.{◌≡◌, ◌++◌, drop}
use Rattle.mr_model.specs.VifList.{without_vif}
use Rattle.mr_vif.specs.Rules.{AreVifs}
use Rattle.mr_vif.proofs.vifs.without.Given as goal

abbrev pub invariant-loop-v : goal.invariant-loop-v
invariant-loop-v l = record {
  rules : AreVifs (l.left ++ drop l.v-index l.vifs);
  same : l.left ++ without_vif (drop l.v-index l.vifs) l.vif ≡ without_vif l.vifs l.vif;
}
