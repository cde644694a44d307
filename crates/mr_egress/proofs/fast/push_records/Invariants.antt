use Rattle.std.proofs.Common.{◌≡◌, ◌++◌, map, take}
use Rattle.mr_egress.specs.FastOrder.{fast_sent}
use Rattle.mr_egress.proofs.fast.push_records.Given as goal

abbrev pub invariant-loop-place : goal.invariant-loop-place
invariant-loop-place l =
    l.all.items ≡ l.initial.all.items ++ map (fast_sent l.lane) (take l.place l.records)
