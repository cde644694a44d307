use Rattle.std.proofs.Common.{◌≡◌, ◌∙◌, Option, Some, option_map, sym, ap}
use Rattle.mr_base.specs.declared.vif_record.VifRecord.{VifRecord}
use Rattle.mr_model.specs.declared.reply.VifTotals.{VifTotals}
use Rattle.mr_model.specs.Counts.{vif_counts}
use Rattle.mr_kernel.specs.Endings.{vif_pair}
use Rattle.mr_kernel.proofs.Closings.{vif_kept}
use Rattle.mr_kernel.proofs.closing.vif_pair.Goals as goal

pub returns-in-Some : goal.returns-in-Some
returns-in-Some c =
    let j = c.args.journal.now in
    let v = c.in_ok-record.record in
    let there = c.in_ok-record.ensures in
    let kept = vif_kept j c.args.vifs.now c.args.i v c.requires.kept c.requires.small
    (sym there) in
    let given = c.in-Some.ensures in
    let same : c.in-Some.totals ≡ vif_counts j.entries v = cc in
    ap (λ (t : VifTotals). Some (v, t)) same
    ∙ ap (λ (o : Option VifRecord). option_map (vif_pair j.entries) o) there
