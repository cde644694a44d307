use Rattle.std.proofs.Common.{◌≡◌, ◌<◌, ◌∙◌, ◌-◌, ℕ, ap, arith, length, map, subst, sym}
use Rattle.mr_load.specs.Dues.{Due, sent_of}
use Rattle.mr_replay.specs.Lanes.{due_in, next_due, own_of}
use Rattle.mr_replay.proofs.OneLane.{Sending, at_place, begins, ends_before, no_due, sends_one}
use Rattle.mr_replay.proofs.Turning.{hands_all, its_sends, place_of}
use Rattle.mr_replay.proofs.sending.send_due.Goals as goal

pub loop-place-init : goal.loop-place-init
loop-place-init g c =
    let at = place_of g.C.RunName.limits c.args.phase c.args.packets.now c.args.lane.now c.left.result c.requires.ready c.requires.fits c.requires.lane c.left.ensures in
    let first : c.len.result - c.left.result ≡ c.requires.ready.place = ap (λ (n : ℕ). n - c.left.result) c.len.ensures ∙ at in
    record {
      lane = c.requires.lane;
      sending = subst (λ (place : ℕ). Sending c.args.phase c.args.packets.now place (own_of c.args.lane.now) (own_of c.args.lane.now)) (sym first)
          (begins c.args.phase c.args.packets.now c.requires.ready.place (own_of c.args.lane.now) c.requires.ready.ready);
    }

pub returns-then-phase-clause-sends : goal.returns-then-phase-clause-sends
returns-then-phase-clause-sends g c =
    let less : c.loop-place.place < length c.args.packets.now.packets = omega (arith, c.loop-place-test.true, c.len-place-end.ensures) in
    let same = at_place (λ (d : Due). c.phase.result ≡ d.phase) c.args.packets.now.packets c.loop-place.place no_due less c.phase.ensures in
    hands_all c.args.packets.now (map sent_of (due_in c.args.phase c.args.packets.now.packets)) c.args.lane.now c.loop-place.lane c.requires.lane c.loop-place.invariant.lane
    (ends_before c.args.phase c.args.packets.now c.loop-place.place (own_of c.args.lane.now) (own_of c.loop-place.lane) c.facts.ensures.rise less (λ e. c.if-phase.true (same ∙ e)) c.loop-place.invariant.sending).0

pub returns-then-phase-clause-ready : goal.returns-then-phase-clause-ready
returns-then-phase-clause-ready g c =
    let less : c.loop-place.place < length c.args.packets.now.packets = omega (arith, c.loop-place-test.true, c.len-place-end.ensures) in
    let same = at_place (λ (d : Due). c.phase.result ≡ d.phase) c.args.packets.now.packets c.loop-place.place no_due less c.phase.ensures in
    record {
      place = c.loop-place.place;
      ready = (ends_before c.args.phase c.args.packets.now c.loop-place.place (own_of c.args.lane.now) (own_of c.loop-place.lane) c.facts.ensures.rise less (λ e. c.if-phase.true (same ∙ e)) c.loop-place.invariant.sending).1;
    }

pub loop-place-preserved : goal.loop-place-preserved
loop-place-preserved g c =
    let less : c.loop-place.place < length c.args.packets.now.packets = omega (arith, c.loop-place-test.true, c.len-place-end.ensures) in
    let same = at_place (λ (d : Due). c.phase.result ≡ d.phase) c.args.packets.now.packets c.loop-place.place no_due less c.phase.ensures in
    record {
      lane = c.send.ensures.sends.lane ∙ c.loop-place.invariant.lane;
      sending = sends_one c.args.phase c.args.packets.now c.loop-place.place (own_of c.args.lane.now) (own_of c.loop-place.lane) (own_of c.send.new.lane) less (sym same ∙ c.if-phase.false) c.loop-place.invariant.sending
          (its_sends c.args.packets.now (map sent_of (next_due c.loop-place.place c.args.packets.now.packets)) c.loop-place.lane c.send.new.lane c.loop-place.invariant.lane c.send.ensures.sends) c.send.ensures.sent;
    }
