use Rattle.std.proofs.Common.{refl, sym, subst}
use Rattle.mr_model.specs.declared.entry.Entry.TheVariants.{Settle}
use Rattle.mr_model.specs.Legal.{SettleAgrees}
use Rattle.mr_fates.proofs.Giving.{fates_same}
use Rattle.mr_history.specs.Journals.{with_entry}
use Rattle.mr_kernel.specs.Values.{KernelValue}
use Rattle.mr_kernel.proofs.Holds.{grown_holds, quiet_grows}
use Rattle.mr_kernel.proofs.Recording.{settle_looks, settle_named, settle_devices}
use Rattle.mr_kernel.proofs.kernel.Kernel.settle.Goals as goal

pub push_settle-requires-clause-looks : goal.push_settle-requires-clause-looks
push_settle-requires-clause-looks c =
    let k = c.before.self.inside in
    let agrees = subst (λ (v : KernelValue). SettleAgrees v.limits v.history c.args.lane
    c.args.records.now) (sym c.before.self.view_is) c.requires in
    settle_looks k.journal.limits k.journal.entries c.args.lane c.args.records.now agrees

pub push_settle-requires-clause-named : goal.push_settle-requires-clause-named
push_settle-requires-clause-named c =
    let k = c.before.self.inside in
    let agrees = subst (λ (v : KernelValue). SettleAgrees v.limits v.history c.args.lane
    c.args.records.now) (sym c.before.self.view_is) c.requires in
    settle_named k.journal.limits k.journal.entries c.args.lane c.args.records.now agrees

pub push_settle-requires-clause-devices : goal.push_settle-requires-clause-devices
push_settle-requires-clause-devices c =
    let k = c.before.self.inside in
    let agrees = subst (λ (v : KernelValue). SettleAgrees v.limits v.history c.args.lane
    c.args.records.now) (sym c.before.self.view_is) c.requires in
    settle_devices k.journal.limits k.journal.entries c.args.lane c.args.records.now
    c.before.self.invariant.fits.devices agrees

pub invariant_of-self : goal.invariant_of-self
invariant_of-self c =
    let k = c.self.inside in
    let e = Settle c.args.lane c.args.records.now in
    let agrees = subst (λ (v : KernelValue). SettleAgrees v.limits v.history c.args.lane
    c.args.records.now) (sym c.self.view_is) c.requires in
    rw (c.push_settle.ensures) (grown_holds k.journal
    (with_entry k.journal e) e k.live k.fates k.live k.fates c.self.invariant
    (quiet_grows k.journal k.live k.fates e c.self.invariant agrees refl
    (fates_same k.journal.limits k.journal.entries e refl)))
