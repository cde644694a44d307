use Rattle.std.proofs.Common.{◌≡◌, ◌<◌, ◌∙◌, refl, sym, subst, ap, arith, option_map}
use Rattle.mr_model.specs.declared.entry.Entry.TheVariants.{Recv}
use Rattle.mr_model.specs.Past.{controls}
use Rattle.mr_model.specs.State.{state}
use Rattle.mr_model.specs.Legal.{HasControl, IsDaemon, message_for}
use Rattle.mr_history.specs.Journals.{JournalValue, with_entry}
use Rattle.mr_kernel.specs.Values.{KernelValue}
use Rattle.mr_kernel.proofs.Holds.{grown_holds, recv_grows}
use Rattle.mr_kernel.proofs.kernel.Kernel.recv.Goals as goal

pub invariant_of-self : goal.invariant_of-self
invariant_of-self c =
    let k = c.self.inside in
    let daemon = subst (λ (v : KernelValue). IsDaemon v.limits c.args.daemon)
    (sym c.self.view_is) c.requires in
    let s = state k.journal.limits k.journal.entries in
    let e = Recv c.args.daemon c.id_of.result in
    let stands = c.self.invariant.stands in
    let given : c.id_of.result ≡ message_for s c.args.daemon = c.id_of.ensures
    ∙ c.take-message.ensures.message k.journal.limits s stands in
    let left = c.controls_left.ensures in
    let some = c.if-controls_left-eq0.false in
    let room : controls k.journal.entries < k.journal.limits.controls =
    omega (arith, left, some) in
    rw (c.push_recv.ensures) (grown_holds k.journal
    (with_entry k.journal e) e k.live k.fates c.take-message.new.live k.fates c.self.invariant
    (recv_grows k.journal k.live c.take-message.new.live k.fates c.args.daemon c.id_of.result
    c.self.invariant daemon room given
    (c.take-message.ensures.stands k.journal.limits s stands) c.take-message.ensures.heads
    c.take-message.ensures.tables c.take-message.ensures.moment))

pub returns-clause-message : goal.returns-clause-message
returns-clause-message c =
    let k = c.self.inside in
    subst (λ (v : KernelValue). option_map (λ u. u.id) c.take-message.result
    ≡ message_for (state v.limits v.history) c.args.daemon) c.self.view_is
    (c.take-message.ensures.message k.journal.limits
    (state k.journal.limits k.journal.entries) c.self.invariant.stands)
