use Rattle.std.proofs.Common.{◌≡◌, ◌<◌, ◌≤◌, ◌+◌, ◌∙◌, ℕ, List, refl, sym, subst, ap, arith}
use Rattle.std.proofs.Common.{length}
use Rattle.mr_base.specs.declared.numbers.LaneNo.{LaneNo}
use Rattle.mr_model.specs.declared.entry.Entry.{Entry}
use Rattle.mr_model.specs.declared.entry.Entry.TheVariants.{Slow}
use Rattle.mr_model.specs.declared.flow.Flow.{Flow}
use Rattle.mr_model.specs.declared.outcome.Outcome.{Outcome}
use Rattle.mr_model.specs.State.{state}
use Rattle.mr_model.specs.Legal.{IsLane, SlowAgrees, packets_given}
use Rattle.mr_model.specs.Outcome.{outcome}
use Rattle.mr_model.specs.Past.{last_index, last_look, last_end, own_before_slow, packets}
use Rattle.mr_model.specs.State.{arrived}
use Rattle.mr_history.specs.Journals.{with_entry}
use Rattle.mr_kernel.specs.Flows.{AreHeads, IsHeadOf, flow_of}
use Rattle.mr_kernel.specs.Standing.{StandsFor}
use Rattle.mr_kernel.specs.Values.{KernelValue}
use Rattle.mr_kernel.proofs.Holds.{grown_holds, slow_grows}
use Rattle.mr_kernel.proofs.Slowly.{slow_named, slow_next, slow_room, waits_young}
use Rattle.mr_kernel.proofs.kernel.Kernel.slow.Goals as goal

pub push_slow-requires-clause-named : goal.push_slow-requires-clause-named
push_slow-requires-clause-named c =
    let k = c.self.inside in
    slow_named k.journal k.live k.fates c.flow_of-flow.result c.decide-outcome.result
    c.self.invariant
    (c.decide-outcome.ensures k.journal.limits
    (state k.journal.limits k.journal.entries) c.self.invariant.stands)

pub begin_fate-requires-clause-next : goal.begin_fate-requires-clause-next
begin_fate-requires-clause-next c =
    let k = c.self.inside in
    slow_next k.journal k.live k.fates c.args.lane c.args.packet.index c.self.invariant
    (subst (λ (v : KernelValue). last_index c.args.lane v.history < c.args.packet.index)
    (sym c.self.view_is) c.requires.next)

pub begin_fate-requires-clause-room : goal.begin_fate-requires-clause-room
begin_fate-requires-clause-room c =
    let k = c.self.inside in
    slow_room k.journal k.live k.fates c.args.lane c.self.invariant
    (subst (λ (v : KernelValue). packets c.args.lane v.history
    < packets_given v.limits c.args.lane) (sym c.self.view_is) c.requires.room)

pub arrive-back-requires : goal.arrive-back-requires
arrive-back-requires c = let k = c.self.inside in
    waits_young k.journal k.live k.fates c.self.invariant

pub returns-clause-outcome : goal.returns-clause-outcome
returns-clause-outcome c =
    let k = c.self.inside in
    subst (λ (v : KernelValue). c.decide-outcome.result
    ≡ outcome v.limits v.history (flow_of c.args.packet)) c.self.view_is
    (c.decide-outcome.ensures k.journal.limits
    (state k.journal.limits k.journal.entries) c.self.invariant.stands
    ∙ ap (λ (f : Flow). outcome k.journal.limits k.journal.entries f) c.flow_of-flow.ensures)

pub invariant_of-self : goal.invariant_of-self
invariant_of-self c =
    let k = c.self.inside in
    let limits = k.journal.limits in
    let h = k.journal.entries in
    let flow = flow_of c.args.packet in
    let o = c.decide-outcome.result in
    let lane = c.args.lane in
    let index = c.args.packet.index in
    let look = c.args.look in
    let e = Slow lane index look flow o in
    let is : o ≡ outcome limits h flow =
    c.decide-outcome.ensures limits (state limits h) c.self.invariant.stands
    ∙ ap (λ (f : Flow). outcome limits h f) c.flow_of-flow.ensures in
    let agrees : SlowAgrees limits h lane index look flow o = record {
      lane_is = subst (λ (v : KernelValue). IsLane v.limits lane)
          (sym c.self.view_is) c.requires.lane;
      room = subst (λ (v : KernelValue). packets lane v.history < packets_given v.limits lane)
          (sym c.self.view_is) c.requires.room;
      next = subst (λ (v : KernelValue). last_index lane v.history < index)
          (sym c.self.view_is) c.requires.next;
      is_outcome = is;
      look_within = subst (λ (v : KernelValue). look ≤ length v.history)
          (sym c.self.view_is) c.requires.look_within;
      look_former = subst (λ (v : KernelValue). last_look lane v.history ≤ look)
          (sym c.self.view_is) c.requires.look_former;
      look_own = subst (λ (v : KernelValue). own_before_slow lane v.history ≤ look)
          (sym c.self.view_is) c.requires.look_own;
      look_end = subst (λ (v : KernelValue). last_end v.history ≤ look)
          (sym c.self.view_is) c.requires.look_end;
    } in
    let pushed : c.push_slow.new.self ≡ with_entry k.journal e =
    c.push_slow.ensures ∙ ap (λ (f : Flow). with_entry k.journal (Slow lane index look f o))
    c.flow_of-flow.ensures in
    let own = c.requires.own in
    let stands : StandsFor limits
    (arrived (state limits h) lane index flow o) c.arrive-back.new.live =
    subst (λ (l : LaneNo). StandsFor limits
    (arrived (state limits h) l index flow o) c.arrive-back.new.live) own
    (c.arrive-back.ensures.stands limits (state limits h) c.self.invariant.stands is) in
    let heads : (h : List Entry) → AreHeads h k.live.unread
    → IsHeadOf h lane index c.args.packet.head → AreHeads h c.arrive-back.new.live.unread =
    subst (λ (l : LaneNo). (h : List Entry) → AreHeads h k.live.unread
    → IsHeadOf h l index c.args.packet.head → AreHeads h c.arrive-back.new.live.unread) own
    c.arrive-back.ensures.heads in
    rw pushed (grown_holds k.journal
    (with_entry k.journal e) e k.live k.fates c.arrive-back.new.live c.begin_fate.new.fates
    c.self.invariant
    (slow_grows k.journal k.live c.arrive-back.new.live k.fates c.begin_fate.new.fates lane index
    look flow c.args.packet.head o c.self.invariant agrees refl
    stands heads c.begin_fate.ensures.lines c.begin_fate.ensures.packets
    c.arrive-back.ensures.tables c.arrive-back.ensures.moment))
