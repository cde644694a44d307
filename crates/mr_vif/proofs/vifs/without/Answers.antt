use Rattle.std.proofs.Common.{arith, ◌≡◌, ◌∙◌, ◌==◌, true, false, not, get_or}
use Rattle.std.proofs.lemmas.Grind.{common_steps}
use Rattle.mr_vif.proofs.KeepLemmas.{blank, walk_free, walk_register, walk_out, walk_kept, filter_out, filter_kept}
use Rattle.mr_vif.proofs.vifs.without.Goals as goal
use Rattle.mr_vif.proofs.vifs.without.Goals.{then-v-vif, else-v-vif}

pub add-requires-clause-free : goal.add-requires-clause-free
add-requires-clause-free c = walk_free c.loop-v.left c.args.vifs.now c.loop-v.v-index _ (omega arith) c.loop-v.invariant.rules

pub add-requires-clause-register : goal.add-requires-clause-register
add-requires-clause-register c = walk_register c.loop-v.left c.args.vifs.now c.loop-v.v-index _ (omega arith) c.loop-v.invariant.rules

pub loop-v-preserved : goal.loop-v-preserved
loop-v-preserved c = elim c.if-v-vif.branch [
  | then-v-vif w ↦
      let stays : not ((get_or c.args.vifs.now c.loop-v.v-index blank).vif == c.args.vif) ≡ true = grind (arith, common_steps, w.if-v-vif.true) in
      rw (w.left-is, w.add.ensures) (record {
        rules = walk_kept c.loop-v.left c.args.vifs.now c.loop-v.v-index _ (omega arith) c.loop-v.invariant.rules;
        same = filter_kept (λ v. not (v.vif == c.args.vif)) c.loop-v.left c.args.vifs.now c.loop-v.v-index blank (omega arith) stays ∙ c.loop-v.invariant.same;
      })
  | else-v-vif w ↦
      let leaves : not ((get_or c.args.vifs.now c.loop-v.v-index blank).vif == c.args.vif) ≡ false = grind (arith, common_steps, w.if-v-vif.false) in
      rw w.left-is (record {
        rules = walk_out c.loop-v.left c.args.vifs.now c.loop-v.v-index blank (omega arith) c.loop-v.invariant.rules;
        same = filter_out (λ v. not (v.vif == c.args.vif)) c.loop-v.left c.args.vifs.now c.loop-v.v-index blank (omega arith) leaves ∙ c.loop-v.invariant.same;
      })
]
