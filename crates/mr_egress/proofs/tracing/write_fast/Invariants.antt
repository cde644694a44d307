use Rattle.std.proofs.Common.{◌≡◌, ◌++◌, drop, flat_map}
use Rattle.mr_egress.specs.Copies.{copies_of}
use Rattle.mr_egress.specs.Files.{records_of}
use Rattle.mr_egress.proofs.tracing.write_fast.Given as goal

abbrev pub invariant-loop-one : goal.invariant-loop-one
invariant-loop-one l =
    l.out.items ++ flat_map (λ p. records_of (copies_of l.lanes l.at.device l.at.vifs p.lane p.index p.outs))
    (drop l.one-index l.packets)
    ≡ l.initial.out.items ++ flat_map (λ p. records_of (copies_of l.lanes l.at.device l.at.vifs p.lane p.index p.outs)) l.packets
