use Rattle.std.proofs.Common.{◌≡◌, ◌++◌, map, drop}
use Rattle.mr_history.specs.Small.{fast_of}
use Rattle.mr_history.proofs.small.fast_all.Given as goal

abbrev pub invariant-loop-one : goal.invariant-loop-one
invariant-loop-one l = l.records.items ++ map fast_of (drop l.one-index l.kept)
    ≡ map fast_of l.kept
