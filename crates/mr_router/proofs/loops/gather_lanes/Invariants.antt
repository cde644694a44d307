use Rattle.std.proofs.Common.{◌≡◌, All, take}
use mathlib.Core.List.{IsPrefix}
use Rattle.mr_book.specs.Views.{with_seen}
use Rattle.mr_router.proofs.loops.gather_lanes.Given as goal

abbrev pub invariant-loop-index : goal.invariant-loop-index
invariant-loop-index g l = record {
  same : l.lanes ≡ l.fn.lanes;
  router : l.router ≡ with_seen l.router.seen l.fn.router;
  begins : IsPrefix l.fn.router.seen l.router.seen;
  all : All (λ x. IsPrefix x.seen l.router.seen) (take l.index l.fn.lanes);
}
