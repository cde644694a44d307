use Rattle.std.proofs.Common.{◌∙◌, ap}
use Rattle.mr_gen.specs.Entries.{add_entry, asks}
use Rattle.mr_gen.proofs.Counting.{map_more}
use Rattle.mr_gen.proofs.routes.push_entries.Goals as goal

pub loop-entry-preserved : goal.loop-entry-preserved
loop-entry-preserved c =
    map_more (λ k. asks (add_entry k)) c.loop-entry.entry 64 c.loop-entry.lines.items c.push.new.self.items _ _ c.loop-entry-test.true
    c.in_ok-push.ensures.items (c.asks.ensures ∙ ap asks c.add_entry.ensures) c.loop-entry.invariant
