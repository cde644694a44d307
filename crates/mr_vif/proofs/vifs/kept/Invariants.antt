use Rattle.std.proofs.Common.{◌≡◌, ◌++◌, drop}
use Rattle.mr_model.specs.VifList.{vifs_left}
use Rattle.mr_vif.specs.Rules.{AreVifs}
use Rattle.mr_vif.proofs.vifs.kept.Given as goal

abbrev pub invariant-loop-v : goal.invariant-loop-v
invariant-loop-v l = record {
  rules : AreVifs (l.left ++ drop l.v-index l.vifs);
  same : l.left ++ vifs_left l.loose l.fixed (drop l.v-index l.vifs) ≡ vifs_left l.loose l.fixed l.vifs;
}
