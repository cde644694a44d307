use Rattle.std.proofs.Common.{◌≡◌, ◌++◌, ℕ, List, All, vec_len}
use Rattle.mr_router.specs.Callers.{LaneValue}
use Rattle.mr_router.specs.Seats.{KnowsAll, KnowsLane}
use Rattle.mr_router.proofs.loops.meet_lanes.Given as goal

-- those that are met already, behind those that are left
abbrev pub invariant-loop-lane : goal.invariant-loop-lane
invariant-loop-lane g l = record {
  router : KnowsAll l.router l.fn.router;
  met : (gone : List LaneValue) × (l.fn.lanes.items ≡ l.lanes.items ++ gone) × All (KnowsLane l.router) gone;
}

abbrev pub decreases-loop-lane : goal.decreases-loop-lane
decreases-loop-lane g l = vec_len l.lanes
