use Rattle.std.proofs.Common.{◌∷◌, [], List, sym, subst}
use Rattle.mr_model.specs.declared.entry.Entry.{Entry}
use Rattle.mr_model.specs.declared.limits.Limits.{Limits}
use Rattle.mr_model.specs.Legal.{SettleAgrees}
use Rattle.mr_kernel_rows.specs.Late.{late, limits}
use Rattle.mr_kernel_rows.specs.Ready.{lane_1}
use Rattle.mr_kernel_rows.proofs.late.settle_late.Goals as goal

pub settle-requires : goal.settle-requires
settle-requires c =
    let k = c.args.kernel.now in
    subst (λ (l : Limits). SettleAgrees l k.history lane_1 (late ∷ [])) (sym c.requires.limits)
    (subst (λ (h : List Entry). SettleAgrees limits h lane_1 (late ∷ []))
    (sym c.requires.history) c.worked_late.ensures)
