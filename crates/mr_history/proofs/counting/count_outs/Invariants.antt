use Rattle.std.proofs.Common.{◌≡◌, ℕ, ◌&&◌, nat_lt, if◌then◌else◌, length}
use Rattle.mr_model.specs.Verdict.{is_in}
use Rattle.mr_history.specs.Totals.{met_of, vif_at, vif_numbers, with_out}
use Rattle.mr_history.proofs.counting.count_outs.Given as goal

abbrev pub invariant-loop-vif : goal.invariant-loop-vif
invariant-loop-vif l = record {
  kept : length l.vifs ≡ 32;
  at : (i : ℕ) → vif_at l.vifs i
      ≡ (if nat_lt i l.vif && is_in l.met.outs i
      then with_out (met_of l.met) (vif_at l.initial.vifs i) else vif_at l.initial.vifs i);
  numbers : vif_numbers l.vifs ≡ vif_numbers l.initial.vifs;
}
