use Rattle.std.proofs.Common.{◌≡◌, flat_map, take}
use Rattle.mr_history.specs.Merged.{lane_fast}
use Rattle.mr_history.proofs.merging.fast_records.Given as goal

abbrev pub invariant-loop-place : goal.invariant-loop-place
invariant-loop-place l = l.all.items ≡ flat_map lane_fast (take l.place l.store.entries)
