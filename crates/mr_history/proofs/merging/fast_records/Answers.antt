use Rattle.mr_history.specs.Merged.{lane_fast}
use Rattle.mr_history.proofs.Interleaving.{flat_more}
use Rattle.mr_history.proofs.merging.fast_records.Goals as goal

pub loop-place-preserved : goal.loop-place-preserved
loop-place-preserved c =
    rw (c.in_ok-push_entry.ensures, c.loop-place.invariant)
    (flat_more lane_fast c.args.store.now.entries c.loop-place.place _ c.entry.ensures.seen)
