use Rattle.std.proofs.Common.{sym}
use Rattle.mr_egress.proofs.CopiesWritten.{none_found, packet_found}
use Rattle.mr_egress.proofs.copying.write_found.Goals as goal

pub returns-in-None : goal.returns-in-None
returns-in-None c = sym (none_found c.args.lane.now.packets c.args.index c.args.mask _ c.in-None.ensures.none)

pub returns-in_ok-write_packet-in-Some : goal.returns-in_ok-write_packet-in-Some
returns-in_ok-write_packet-in-Some c =
    packet_found c.args.lane.now.packets c.args.index c.args.mask c.in-Some.place _ _ c.in-Some.ensures.within
    c.in-Some.ensures.found c.in_ok-write_packet-in-Some.ensures
