use Rattle.std.proofs.Common.{refl}
use Rattle.mr_base.specs.AcceptedHeads.{IsHeadOf}
use Rattle.mr_load.specs.Dues.{IsPacketOf}
use Rattle.mr_load.specs.HeldBytes.{due_held}
use Rattle.mr_load.proofs.HeldDues.{accepted_at, at_due, flow_same}
use Rattle.mr_load.proofs.lane.LanePackets.packet.Goals as goal

pub accepted_head-requires : goal.accepted_head-requires
accepted_head-requires c =
    rw (c.bytes_of.ensures, c.as_slice.ensures.value)
    (accepted_at c.self.inside.bytes.items c.self.inside.held.items c.args.place c.index-held.result.now (rw (← c.self.view_is) at c.requires) c.index-held.ensures c.self.invariant.due.accepted)

pub returns : goal.returns
returns c =
    let all = c.self.inside.bytes.items in
    let held = c.index-held.result.now in
    let head : IsHeadOf c.accepted_head.result (due_held all held).bytes = rw (c.bytes_of.ensures, c.as_slice.ensures.value) at c.accepted_head.ensures in
    rw (← c.self.view_is)
    (at_due (IsPacketOf c.self.inside.lane (record { lane = c.self.inside.lane; index = held.index; dev = held.dev; head = c.accepted_head.result })) all c.self.inside.held.items c.args.place held
    (rw (← c.self.view_is) at c.requires) c.index-held.ensures
    (record {
      lane_is = refl;
      index = refl;
      dev = refl;
      head = head;
      flow = flow_same held.dev c.accepted_head.result (due_held all held).bytes head;
    }))
