use Rattle.std.proofs.Common.{◌≡◌, length}
use Rattle.mr_load.specs.Passing.{EachFrom, IsFresh}
use Rattle.mr_load.proofs.passing.fresh_lanes.Given as goal

abbrev pub invariant-loop-i : goal.invariant-loop-i
invariant-loop-i l = record {
  fresh : EachFrom IsFresh 1 l.fresh.items;
  count : length l.fresh.items ≡ l.i;
}
