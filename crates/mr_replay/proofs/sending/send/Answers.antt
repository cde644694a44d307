use Rattle.std.proofs.Common.{◌-◌}
use Rattle.mr_load.specs.Dues.{IsPacketOf}
use Rattle.mr_replay.specs.Lanes.{own_of}
use Rattle.mr_replay.proofs.OneLane.{at_place, no_due}
use Rattle.mr_replay.proofs.Slowing.{index_next, room_next}
use Rattle.mr_replay.proofs.Turning.{hands_one, lane_next, lane_room, sent_one}
use Rattle.mr_replay.proofs.sending.send.Goals as goal

pub packet-requires-clause-room : goal.packet-requires-clause-room
packet-requires-clause-room g c =
    lane_room g.C.RunName.limits c.args.packets.now c.args.lane.now c.requires.lane
    (room_next g.C.RunName.limits c.args.packets.now c.args.place (own_of c.args.lane.now) c.requires.fits c.requires.sent c.requires.within)

pub packet-requires-clause-next : goal.packet-requires-clause-next
packet-requires-clause-next g c =
    let is = at_place (IsPacketOf c.args.packets.now.lane c.packet-packet.result) c.args.packets.now.packets c.args.place no_due c.requires.within c.packet-packet.ensures in
    lane_next c.args.packets.now c.args.lane.now c.packet-packet.result.index c.requires.lane
    (index_next c.args.packets.now c.args.place c.packet-packet.result.index (own_of c.args.lane.now) c.facts.ensures.rise c.requires.sent c.requires.within is.index)

pub returns-clause-sends : goal.returns-clause-sends
returns-clause-sends g c =
    let is = at_place (IsPacketOf c.args.packets.now.lane c.packet-packet.result) c.args.packets.now.packets c.args.place no_due c.requires.within c.packet-packet.ensures in
    hands_one g.C.RunName.limits c.args.packets.now c.args.place (c.packet.result.number - 1) c.packet-packet.result c.packet.result.outcome c.args.lane.now c.packet.new.self
    c.requires.lane c.packet.ensures.lane c.requires.within is c.packet.ensures.entry

pub returns-clause-sent : goal.returns-clause-sent
returns-clause-sent g c =
    let is = at_place (IsPacketOf c.args.packets.now.lane c.packet-packet.result) c.args.packets.now.packets c.args.place no_due c.requires.within c.packet-packet.ensures in
    sent_one c.args.packets.now c.args.place c.args.lane.now c.packet.new.self c.requires.lane c.requires.sent c.requires.within
    (hands_one g.C.RunName.limits c.args.packets.now c.args.place (c.packet.result.number - 1) c.packet-packet.result c.packet.result.outcome c.args.lane.now c.packet.new.self
    c.requires.lane c.packet.ensures.lane c.requires.within is c.packet.ensures.entry)
