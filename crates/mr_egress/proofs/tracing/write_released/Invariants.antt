use Rattle.std.proofs.Common.{◌≡◌, ◌++◌, drop, flat_map}
use Rattle.mr_egress.specs.Copies.{copies_freed}
use Rattle.mr_egress.specs.Files.{records_of}
use Rattle.mr_egress.proofs.tracing.write_released.Given as goal

abbrev pub invariant-loop-one : goal.invariant-loop-one
invariant-loop-one l =
    l.out.items ++ flat_map (λ r. records_of (copies_freed l.lanes l.at.device l.at.vifs r)) (drop l.one-index l.released)
    ≡ l.initial.out.items ++ flat_map (λ r. records_of (copies_freed l.lanes l.at.device l.at.vifs r)) l.released
