use Rattle.std.proofs.Common.{sym, ap, ◌∙◌, arith, pow_mono, Some, ◌≤◌, ◌+◌}
use Rattle.mr_lines.specs.Bytes.{behind}
use Rattle.mr_lines.proofs.MaskBytes.{vifs_in, vif_stuck, vif_low, vif_next, vif_last, vif_broken, no_comma, comma_first, shorter}
use Rattle.mr_lines.proofs.masks.vifs.Goals as goal

pub returns-in-None : goal.returns-in-None
returns-in-None c = sym c.vifs.invariant.same ∙ vif_stuck c.vifs.least c.vifs.mask c.vifs.left.now c.in-None.ensures.number

pub returns-then-vif-least : goal.returns-then-vif-least
returns-then-vif-least c = sym c.vifs.invariant.same ∙ vif_low c.vifs.least c.vifs.mask c.in-Some.vif c.vifs.left.now c.in-Some.ensures.number.0 c.if-vif-least.true

pub with_vif-mask-requires-clause-above : goal.with_vif-mask-requires-clause-above
with_vif-mask-requires-clause-above c =
    let high : c.vifs.least ≤ c.in-Some.vif = omega (arith, c.if-vif-least.false) in
    omega (arith, c.vifs.invariant.below, pow_mono {i = c.vifs.least} {j = c.in-Some.vif} high)

pub returns-then-ends : goal.returns-then-ends
returns-then-ends c =
    sym c.vifs.invariant.same
    ∙ vif_last c.vifs.least c.vifs.mask c.in-Some.vif c.vifs.left.now c.in-Some.after.now c.in-Some.ensures.number.0 (omega (arith, c.if-vif-least.false)) c.in-Some.ensures.number.1 (sym c.ends.ensures ∙ c.if-ends.true)
    ∙ ap (λ m. Some (m, behind c.in-Some.after.now)) (sym c.with_vif-mask.ensures.value)

pub returns-then-not-is_comma : goal.returns-then-not-is_comma
returns-then-not-is_comma c =
    sym c.vifs.invariant.same
    ∙ vif_broken c.vifs.least c.vifs.mask c.vifs.left.now c.in-Some.after.now c.in-Some.ensures.number.1 (sym c.ends.ensures ∙ c.if-ends.false) (no_comma c.in-Some.after.now (sym c.is_comma.ensures ∙ c.if-not-is_comma.true))

pub vifs-smaller : goal.vifs-smaller
vifs-smaller c = shorter _ c.vifs.left.now c.in-Some.after.now c.behind_first-left.result.now c.in-Some.ensures.number.1 c.behind_first-left.ensures

pub vifs-preserved : goal.vifs-preserved
vifs-preserved c = record {
  same =
      ap (λ m. vifs_in (c.in-Some.vif + 1) m c.behind_first-left.result.now) c.with_vif-mask.ensures.value
      ∙ sym (vif_next c.vifs.least c.vifs.mask c.in-Some.vif c.vifs.left.now c.behind_first-left.result.now c.in-Some.ensures.number.0 (omega (arith, c.if-vif-least.false))
      (comma_first c.vifs.left.now c.in-Some.after.now c.behind_first-left.result.now c.in-Some.ensures.number.1 (sym c.is_comma.ensures ∙ c.if-not-is_comma.false) c.behind_first-left.ensures))
      ∙ c.vifs.invariant.same;
  below = c.with_vif-mask.ensures.below;
  few = omega (arith, c.in-Some.ensures.within);
}
