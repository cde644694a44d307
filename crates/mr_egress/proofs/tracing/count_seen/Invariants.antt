use Rattle.std.proofs.Common.{◌≡◌, take}
use Rattle.std.specs.List.{AllByRecursion}
use Rattle.mr_egress.proofs.Merging.{HasLook}
use Rattle.mr_egress.proofs.tracing.count_seen.Given as goal

abbrev pub invariant-loop-one : goal.invariant-loop-one
invariant-loop-one l = record {
  count : l.count ≡ l.one-index;
  all : AllByRecursion (HasLook l.look) (take l.one-index l.sorted);
}
