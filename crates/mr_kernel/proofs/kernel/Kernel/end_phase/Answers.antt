use Rattle.std.proofs.Common.{◌<◌, refl, sym, subst}
use Rattle.mr_model.specs.declared.entry.Entry.TheVariants.{EndPhase}
use Rattle.mr_model.specs.Past.{phases}
use Rattle.mr_fates.proofs.Giving.{fates_same}
use Rattle.mr_history.specs.Journals.{with_entry}
use Rattle.mr_kernel.specs.Values.{KernelValue}
use Rattle.mr_kernel.proofs.Holds.{grown_holds, quiet_grows}
use Rattle.mr_kernel.proofs.kernel.Kernel.end_phase.Goals as goal

pub invariant_of-self : goal.invariant_of-self
invariant_of-self c =
    let k = c.self.inside in
    let room = subst (λ (v : KernelValue). phases v.history < v.limits.phases)
    (sym c.self.view_is) c.requires in
    rw (c.push_phase.ensures) (grown_holds k.journal
    (with_entry k.journal EndPhase) EndPhase k.live k.fates k.live k.fates c.self.invariant
    (quiet_grows k.journal k.live k.fates EndPhase c.self.invariant room refl
    (fates_same k.journal.limits k.journal.entries EndPhase refl)))
