use Rattle.mr_gen.specs.Entries.{packet_of}
use Rattle.mr_gen.proofs.Counting.{map_more}
use Rattle.mr_gen.proofs.routes.packets_of_all.Goals as goal

pub loop-entry-preserved : goal.loop-entry-preserved
loop-entry-preserved c =
    map_more packet_of c.loop-entry.entry 64 c.loop-entry.all.items c.push.new.self.items _ _ c.loop-entry-test.true c.in_ok-push.ensures.items
    c.packet_of.ensures c.loop-entry.invariant
