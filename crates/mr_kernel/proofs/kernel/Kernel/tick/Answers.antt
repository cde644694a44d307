use Rattle.std.proofs.Common.{◌≡◌, ◌<◌, ◌≤◌, ◌+◌, ◌∙◌, ℕ, refl, sym, subst, ap, arith, length}
use Rattle.mr_model.specs.declared.ending.Fate.TheVariants.{Expired}
use Rattle.mr_model.specs.declared.entry.Entry.TheVariants.{Tick}
use Rattle.mr_model.specs.Past.{controls}
use Rattle.mr_model.specs.State.{state}
use Rattle.mr_model.specs.Legal.{IsDaemon}
use Rattle.mr_fates.specs.After.{ended_all, expired}
use Rattle.mr_history.specs.Journals.{with_entry}
use Rattle.mr_unres.specs.Entries.{awaiting}
use Rattle.mr_kernel.specs.Values.{KernelValue}
use Rattle.mr_kernel.proofs.Holds.{grown_holds, tick_grows}
use Rattle.mr_kernel.proofs.kernel.Kernel.tick.Goals as goal

pub tick-requires : goal.tick-requires
tick-requires c =
    let early = c.self.invariant.early in
    let left = c.controls_left.ensures in
    let most = c.self.invariant.fits.controls in
    omega (arith, early, left, most)

pub invariant_of-self : goal.invariant_of-self
invariant_of-self c =
    let k = c.self.inside in
    let daemon = subst (λ (v : KernelValue). IsDaemon v.limits c.args.daemon)
    (sym c.self.view_is) c.requires in
    let e = Tick c.args.daemon c.args.ms in
    let left = c.controls_left.ensures in
    let some = c.if-controls_left-eq0.false in
    let room : controls k.journal.entries < k.journal.limits.controls =
    omega (arith, left, some) in
    let small : c.args.ms ≤ 4294967295 = omega (arith, c.ranges.ms) in
    let number : c.len-number.result + 1 ≡ length k.journal.entries + 1 =
    ap (λ n. n + 1) c.len-number.ensures in
    let lines = c.tick.ensures.lines
    ∙ ap (λ n. ended_all (Expired n)
    (expired (k.live.moment + c.args.ms) (awaiting k.live.waiting.entries)) k.fates.lines)
    number in
    rw (c.push_tick.ensures) (grown_holds k.journal
    (with_entry k.journal e) e k.live k.fates c.tick.new.live c.tick.new.fates c.self.invariant
    (tick_grows k.journal k.live c.tick.new.live k.fates c.tick.new.fates c.args.daemon c.args.ms
    c.self.invariant daemon room small
    (c.tick.ensures.stands k.journal.limits
    (state k.journal.limits k.journal.entries) c.self.invariant.stands)
    lines c.tick.ensures.packets c.tick.ensures.tables c.tick.ensures.unread
    c.tick.ensures.moment))
