use Rattle.std.proofs.Common.{length, ◌≡◌, ◌++◌, map}
use Rattle.std.specs.Prelude.{flat_map}
use Rattle.mr_load.specs.Gathering.{AreFew}
use Rattle.mr_load.proofs.gathering.gather.Given as goal

-- what is gathered, with what is left, is what all lanes give
abbrev pub invariant-loop-left : goal.invariant-loop-left
invariant-loop-left l = record {
  few : AreFew l.left.items;
  lanes : l.all.lanes.items ++ map (λ p. p.packets) l.left.items ≡ map (λ p. p.packets) l.fn.lanes.items;
  counts : l.all.counts.items ++ map (λ p. length p.packets.packets) l.left.items ≡ map (λ p. length p.packets.packets) l.fn.lanes.items;
  skips : l.all.skips.items ++ flat_map (λ p. p.skips.items) l.left.items ≡ flat_map (λ p. p.skips.items) l.fn.lanes.items;
  devs : l.all.devs.items ++ flat_map (λ p. p.devs.items) l.left.items ≡ flat_map (λ p. p.devs.items) l.fn.lanes.items;
}

abbrev pub decreases-loop-left : goal.decreases-loop-left
decreases-loop-left l = length l.left.items
