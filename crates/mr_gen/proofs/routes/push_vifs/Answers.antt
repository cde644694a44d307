use Rattle.std.proofs.Common.{◌∙◌, ap}
use Rattle.mr_gen.specs.Entries.{add_vif, asks}
use Rattle.mr_gen.proofs.Counting.{map_more}
use Rattle.mr_gen.proofs.routes.push_vifs.Goals as goal

pub loop-i-preserved : goal.loop-i-preserved
loop-i-preserved c =
    map_more (λ i. asks (add_vif i)) c.loop-i.i 4 c.loop-i.lines.items c.push.new.self.items _ _ c.loop-i-test.true c.in_ok-push.ensures.items
    (c.asks.ensures ∙ ap asks c.add_vif.ensures) c.loop-i.invariant
