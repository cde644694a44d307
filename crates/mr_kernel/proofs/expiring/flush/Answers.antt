use Rattle.std.proofs.Common.{◌≡◌, ap, ◌∙◌}
use Rattle.mr_unres.specs.Entries.{WaitingEntries}
use Rattle.mr_kernel.proofs.Ending.{flushed_all}
use Rattle.mr_kernel.proofs.expiring.flush.Goals as goal

pub returns-clause-waiting : goal.returns-clause-waiting
returns-clause-waiting c = ap (λ (w : WaitingEntries). w.entries) c.in_default.ensures.stays
    ∙ c.in_default.ensures.none
