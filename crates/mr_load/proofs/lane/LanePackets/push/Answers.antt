use Rattle.std.proofs.Common.{refl, ap, length}
use Rattle.mr_load.specs.declared.lane.Held.{Held}
use Rattle.mr_load.proofs.HeldDues.{dues_pushed, within_pushed, lane_pushed}
use Rattle.mr_load.proofs.lane.LanePackets.push.Goals as goal

pub invariant_of-self-2 : goal.invariant_of-self-2
invariant_of-self-2 c =
    let all = c.self.inside.bytes.items in
    let more = c.args.bytes.now in
    let hs = c.self.inside.held.items in
    let h : Held = record { phase = c.args.phase; index = c.args.index; dev = c.args.dev; from = length c.as_slice-from.result.now; length = length more } in
    record {
      within = rw (c.push_reserved.ensures.items, c.in_ok-reserve.ensures.items, c.in_ok-extend_from_slice.ensures.items)
          (within_pushed all more hs h c.self.invariant.within (ap length c.as_slice-from.ensures.value) refl);
      due = rw (c.push_reserved.ensures.items, c.in_ok-reserve.ensures.items, c.in_ok-extend_from_slice.ensures.items)
          (lane_pushed all more hs h c.self.invariant.within c.self.invariant.due (ap length c.as_slice-from.ensures.value) refl
          c.requires.accepted c.requires.first (rw (← c.self.view_is) at c.requires.behind));
    }

pub returns-clause-added : goal.returns-clause-added
returns-clause-added c =
    let h : Held = record { phase = c.args.phase; index = c.args.index; dev = c.args.dev; from = length c.as_slice-from.result.now; length = length c.args.bytes.now } in
    rw (
      c.push_reserved.ensures.items,
      c.in_ok-reserve.ensures.items,
      c.in_ok-extend_from_slice.ensures.items,
      dues_pushed c.self.inside.bytes.items c.args.bytes.now c.self.inside.held.items h c.self.invariant.within (ap length c.as_slice-from.ensures.value) refl,
      ← c.self.view_is,
    )
    refl
