use Rattle.std.proofs.Common.{◌∙◌, refl, ap}
use Rattle.mr_model.specs.declared.limits.Limits.{Limits}
use Rattle.mr_fates.specs.Lines.{FateList}
use Rattle.mr_unres.specs.Entries.{WaitingEntries}
use Rattle.mr_kernel.proofs.Closings.{first_holds}
use Rattle.mr_kernel.proofs.kernel.Kernel.with.Goals as goal

pub invariant_of-result : goal.invariant_of-result
invariant_of-result c =
    let seen = c.limits.view_is in
    first_holds c.args.limits.now c.in_ok-journal.journal _ c.in_ok-fates.fates c.requires
    c.in_ok-journal.ensures.entries c.in_ok-journal.ensures.limits c.in_ok-journal.ensures.routes
    c.in_ok-journal.ensures.vifs
    refl c.in_ok-tables.ensures.tables
    (c.in_ok-tables.ensures.slots ∙ ap (λ (l : Limits). l.entries) seen)
    (c.in_ok-tables.ensures.devices ∙ c.as_slice.ensures.value
    ∙ ap (λ (l : Limits). l.devices) seen) refl
    (ap (λ (w : WaitingEntries). w.entries) c.in_ok-waiting.ensures)
    (ap (λ (w : WaitingEntries). w.limit) c.in_ok-waiting.ensures
    ∙ ap (λ (l : Limits). l.unresolved) seen)
    c.new.ensures c.in_ok-attempts.ensures.items
    (c.in_ok-attempts.ensures.room ∙ ap (λ (l : Limits). l.entries) seen)
    (ap (λ (x : FateList). x.lines) c.in_ok-fates.ensures)
    (ap (λ (x : FateList). x.packets) c.in_ok-fates.ensures ∙ c.as_slice-2.ensures.value
    ∙ ap (λ (l : Limits). l.packets) seen)
