use Rattle.std.proofs.Common.{◌≡◌, ◌++◌, map, take}
use Rattle.mr_history.proofs.merging.push_records.Given as goal

abbrev pub invariant-loop-place : goal.invariant-loop-place
invariant-loop-place l = l.all.items
    ≡ l.initial.all.items ++ map (λ r. record { lane = l.lane; fast = r }) (take l.place l.records)
