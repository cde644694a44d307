use Rattle.std.proofs.Common.{◌≡◌, ◌++◌, ℕ, List, All, vec_len}
use Rattle.mr_router.specs.Callers.{DaemonValue}
use Rattle.mr_router.specs.Seats.{KnowsAll, KnowsDaemon}
use Rattle.mr_router.proofs.loops.meet_daemons.Given as goal

-- those that are met already, behind those that are left
abbrev pub invariant-loop-daemon : goal.invariant-loop-daemon
invariant-loop-daemon g l = record {
  router : KnowsAll l.router l.fn.router;
  met : (gone : List DaemonValue) × (l.fn.daemons.items ≡ l.daemons.items ++ gone) × All (KnowsDaemon l.router) gone;
}

abbrev pub decreases-loop-daemon : goal.decreases-loop-daemon
decreases-loop-daemon g l = vec_len l.daemons
