use Rattle.std.proofs.Common.{arith, ◌≡◌, ◌∙◌, true, false, not, get_or, if◌then◌else◌}
use Rattle.std.proofs.lemmas.Grind.{common_steps}
use Rattle.mr_vif.proofs.KeepLemmas.{blank, walk_free, walk_register, walk_out, walk_kept, filter_out, filter_kept}
use Rattle.mr_vif.proofs.vifs.kept.Goals as goal
use Rattle.mr_vif.proofs.vifs.kept.Goals.{then-not-goes, else-not-goes}

pub add-requires-clause-free : goal.add-requires-clause-free
add-requires-clause-free c = walk_free c.loop-v.left c.args.vifs.now c.loop-v.v-index _ (omega arith) c.loop-v.invariant.rules

pub add-requires-clause-register : goal.add-requires-clause-register
add-requires-clause-register c = walk_register c.loop-v.left c.args.vifs.now c.loop-v.v-index _ (omega arith) c.loop-v.invariant.rules

pub loop-v-preserved : goal.loop-v-preserved
loop-v-preserved c = elim c.if-not-goes.branch [
  | then-not-goes w ↦
      let stays : not (if (get_or c.args.vifs.now c.loop-v.v-index blank).fixed then c.args.fixed else c.args.loose) ≡ true = grind (arith, common_steps, w.if-not-goes.true) in
      rw (w.left-is, w.add.ensures) (record {
        rules = walk_kept c.loop-v.left c.args.vifs.now c.loop-v.v-index _ (omega arith) c.loop-v.invariant.rules;
        same = filter_kept (λ v. not (if v.fixed then c.args.fixed else c.args.loose)) c.loop-v.left c.args.vifs.now c.loop-v.v-index blank (omega arith) stays ∙ c.loop-v.invariant.same;
      })
  | else-not-goes w ↦
      let leaves : not (if (get_or c.args.vifs.now c.loop-v.v-index blank).fixed then c.args.fixed else c.args.loose) ≡ false = grind (arith, common_steps, w.if-not-goes.false) in
      rw w.left-is (record {
        rules = walk_out c.loop-v.left c.args.vifs.now c.loop-v.v-index blank (omega arith) c.loop-v.invariant.rules;
        same = filter_out (λ v. not (if v.fixed then c.args.fixed else c.args.loose)) c.loop-v.left c.args.vifs.now c.loop-v.v-index blank (omega arith) leaves ∙ c.loop-v.invariant.same;
      })
]
