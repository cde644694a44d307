use Rattle.std.proofs.Common.{List, subst}
use Rattle.mr_model.specs.declared.packet.Packet.{Packet}
use Rattle.mr_kernel.proofs.Freeing.{Halfway, next_halfway, all_outcomes}
use Rattle.mr_kernel.proofs.releasing.release.Goals as goal

pub loop-packet-preserved : goal.loop-packet-preserved
loop-packet-preserved c =
    let half = subst (λ (left : List Packet). Halfway c.args.route.now c.args.live.now
    c.args.packets.items c.loop-packet.live c.loop-packet.freed.items left)
    c.in-Some.ensures.some c.loop-packet.invariant in
    rw (c.push.ensures.items) (next_halfway c.args.route.now c.args.live.now c.loop-packet.live
    c.free.new.live c.args.packets.items c.pop_oldest.new.packets.items
    c.loop-packet.freed.items c.in-Some.packet c.free.result half
    (record {
      outcome = c.free.ensures.outcome;
      stands = c.free.ensures.stands;
      packet = c.free.ensures.packet;
      heads = c.free.ensures.heads;
      tables = c.free.ensures.tables;
      moment = c.free.ensures.moment;
    }))

pub returns-clause-outcomes : goal.returns-clause-outcomes
returns-clause-outcomes c =
    all_outcomes c.args.route.now c.args.live.now c.loop-packet.live c.args.packets.items
    c.loop-packet.waiting.items c.loop-packet.freed.items
    c.in_default.ensures.none c.loop-packet.invariant

pub returns-clause-heads : goal.returns-clause-heads
returns-clause-heads c h heads own = (c.loop-packet.invariant.heads h heads own).0
