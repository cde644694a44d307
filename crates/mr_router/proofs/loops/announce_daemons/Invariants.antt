use Rattle.std.proofs.Common.{◌≡◌, All, take}
use Rattle.mr_authors.specs.Authors.{own, daemon_author}
use Rattle.mr_router.specs.Callers.{daemon_sees}
use Rattle.mr_router.proofs.Walking.{changed_to}
use Rattle.mr_router.proofs.loops.announce_daemons.Given as goal

abbrev pub invariant-loop-index : goal.invariant-loop-index
invariant-loop-index g l = record {
  changed : l.daemons ≡ changed_to (daemon_sees l.fn.router.seen) l.index l.fn.daemons;
  router : l.router ≡ l.fn.router;
  owns : All (λ x. own (daemon_author x.daemon.0) l.fn.router.seen ≡ own (daemon_author x.daemon.0) x.seen) (take l.index l.fn.daemons);
}
