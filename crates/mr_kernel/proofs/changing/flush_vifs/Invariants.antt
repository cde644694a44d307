use Rattle.std.proofs.Common.{◌≡◌, ℕ, ◌<◌, ◌≤◌}
use Rattle.mr_model.specs.VifList.{vif_at, vifs_left}
use Rattle.mr_history.specs.Journals.{number_at}
use Rattle.mr_kernel.proofs.ChangesVifs.{number_of}
use Rattle.mr_kernel.proofs.changing.flush_vifs.Given as goal

abbrev pub invariant-loop-vif : goal.invariant-loop-vif
invariant-loop-vif l = record {
  done : (i : ℕ) → i < 32 → i < l.vif
      → number_at l.journal.vifs i ≡ number_of (vif_at (vifs_left l.loose l.fixed l.vifs) i);
  left : (i : ℕ) → i < 32 → l.vif ≤ i
      → number_at l.journal.vifs i ≡ number_of (vif_at l.vifs i);
  others : l.journal ≡ record l.fn.journal { vifs = l.journal.vifs };
}
