use Rattle.std.proofs.Common.{◌≡◌, ◌+◌, ◌-◌, []}
use Rattle.mr_router.specs.Seats.{HoldsRouter}
use Rattle.mr_router.proofs.loops.meet_spares.Given as goal

abbrev pub invariant-loop-met : goal.invariant-loop-met
invariant-loop-met g l = record {
  dealer : l.dealer ≡ record { next = l.fn.dealer.next + l.met; left = l.fn.dealer.left - l.met };
  router : HoldsRouter l.router;
  unseen : l.router.seen ≡ [];
}
