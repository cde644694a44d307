use Rattle.std.proofs.Common.{◌≡◌, All, take}
use Rattle.mr_authors.specs.Authors.{own, daemon_author}
use Rattle.mr_router.specs.Callers.{lane_sees}
use Rattle.mr_router.proofs.Walking.{changed_to}
use Rattle.mr_router.proofs.loops.announce_lanes.Given as goal

abbrev pub invariant-loop-index : goal.invariant-loop-index
invariant-loop-index g l = record {
  changed : l.lanes ≡ changed_to (lane_sees l.fn.router.seen) l.index l.fn.lanes;
  router : l.router ≡ l.fn.router;
  owns : All (λ x. own x.lane.0 l.fn.router.seen ≡ own x.lane.0 x.seen) (take l.index l.fn.lanes);
}
