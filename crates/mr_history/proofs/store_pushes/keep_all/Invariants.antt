use Rattle.std.proofs.Common.{◌≡◌, ◌++◌, map, take, vec_capacity}
use Rattle.mr_history.specs.Small.{fast_of}
use Rattle.mr_history.proofs.store_pushes.keep_all.Given as goal

abbrev pub invariant-loop-fast : goal.invariant-loop-fast
invariant-loop-fast l = record {
  items : map fast_of l.kept.items
      ≡ map fast_of l.initial.kept.items ++ take l.fast-index l.records;
  capacity : vec_capacity l.kept ≡ vec_capacity l.initial.kept;
}
