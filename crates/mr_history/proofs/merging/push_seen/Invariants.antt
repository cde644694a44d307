use Rattle.std.proofs.Common.{◌≡◌, ◌+◌, ◌++◌, map, filter, length}
use Rattle.mr_history.specs.Merged.{step_of, is_at, AreSorted, AreFrom, SameFrom}
use Rattle.mr_history.proofs.merging.push_seen.Given as goal

abbrev pub invariant-loop-rest : goal.invariant-loop-rest
invariant-loop-rest l = record {
  steps : l.steps.items ++ map step_of (filter (is_at l.look) l.rest)
      ≡ l.initial.steps.items ++ map step_of (filter (is_at l.look) l.sorted);
  sorted : AreSorted l.rest;
  from : AreFrom l.look l.rest;
  same : SameFrom (l.look + 1) l.rest l.sorted;
}

abbrev pub decreases-loop-rest : goal.decreases-loop-rest
decreases-loop-rest l = length l.rest
