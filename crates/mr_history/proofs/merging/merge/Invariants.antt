use Rattle.std.proofs.Common.{◌≡◌, ◌++◌, drop, flat_map}
use Rattle.mr_model.specs.Unfolded.{unfolded, unfolded_from}
use Rattle.mr_history.specs.Merged.{lane_fast, AreSorted, AreFrom, SameFrom}
use Rattle.mr_history.proofs.merging.merge.Given as goal

abbrev pub invariant-loop-place : goal.invariant-loop-place
invariant-loop-place l = record {
  steps : l.steps.items ++ unfolded_from l.store.entries l.place (drop l.place l.store.entries)
      ≡ unfolded l.store.entries;
  sorted : AreSorted l.rest;
  from : AreFrom l.place l.rest;
  same : SameFrom l.place l.rest (flat_map lane_fast l.store.entries);
}
