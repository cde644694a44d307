use Rattle.std.proofs.Common.{◌≡◌, take, flat_map}
use Rattle.mr_egress.specs.FastOrder.{fast_of, AreSorted, AreFrom, SameFrom}
use Rattle.mr_egress.specs.Places.{place_of}
use Rattle.mr_egress.proofs.Walking.{AreSoFar}
use Rattle.mr_egress.proofs.tracing.write_steps.Given as goal

abbrev pub invariant-loop-place : goal.invariant-loop-place
invariant-loop-place l = record {
  so_far : AreSoFar l.journal.limits l.lanes l.device l.journal.entries l.initial.out.items l.place l.out.items;
  sorted : AreSorted l.rest;
  from : AreFrom l.place l.rest;
  same : SameFrom l.place l.rest (flat_map fast_of l.journal.entries);
  at : l.at ≡ place_of l.journal.limits l.device (take l.place l.journal.entries);
}
