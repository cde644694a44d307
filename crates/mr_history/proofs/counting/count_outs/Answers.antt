use Rattle.std.proofs.Common.{rules, arith, sym, ◌∙◌}
use Rattle.mr_history.specs.Totals.{met_of, vif_at}
use Rattle.mr_history.proofs.Summing.{out_went, out_stayed, out_number, numbers_set}
use Rattle.mr_history.proofs.counting.count_outs.Goals as goal
use Rattle.mr_history.proofs.counting.count_outs.Goals.{then-is_in, else-is_in}

pub loop-vif-preserved : goal.loop-vif-preserved
loop-vif-preserved c =
    let m = met_of c.args.met.now in
    let v = c.loop-vif.invariant in
    elim c.if-is_in.branch [
      | then-is_in w ↦ rw (w.vifs-is, w.with_out.ensures, w.from-at.ensures) record {
        kept = search rules;
        at = out_went m c.loop-vif.vif c.args.vifs.now c.loop-vif.vifs (omega arith)
            (sym c.is_in.ensures ∙ w.if-is_in.true) v.at;
        numbers = numbers_set c.loop-vif.vifs c.loop-vif.vif _
            (out_number m (vif_at c.loop-vif.vifs c.loop-vif.vif)) ∙ v.numbers;
      }
      | else-is_in w ↦ rw w.vifs-is record {
        kept = v.kept;
        at = out_stayed m c.loop-vif.vif c.args.vifs.now c.loop-vif.vifs
            (sym c.is_in.ensures ∙ w.if-is_in.false) v.at;
        numbers = v.numbers;
      }
    ]
