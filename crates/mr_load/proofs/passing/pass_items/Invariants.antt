use Rattle.mr_load.specs.Kept.{contents_kept}
use Rattle.mr_load.proofs.LanePasses.{Keeps}
use Rattle.mr_load.proofs.passing.pass_items.Given as goal

abbrev pub invariant-loop-item : goal.invariant-loop-item
invariant-loop-item l = Keeps (contents_kept l.traces.entries) l.phase l.item-index l.items l.initial.lanes.items l.lanes.items
