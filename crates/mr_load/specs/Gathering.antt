-- What lanes give together.
use Rattle.std.specs.Prelude.{◌≡◌, ◌≤◌, List, ◌++◌, length, map, flat_map}
use Rattle.std.specs.List.{AllByRecursion}
use Rattle.mr_load.specs.declared.gathering.Gathered.{Gathered}
use Rattle.mr_load.specs.declared.passing.Passed.{Passed}

-- No lane has more packets than a scenario may.
abbrev pub AreFew : List Passed → Type 0
AreFew ps = AllByRecursion (λ p. length p.packets.packets ≤ 1048576) ps

-- what these lanes add
pub record Gathers (old : Gathered) (ps : List Passed) (new : Gathered) : Type 0 where
  pub lanes : new.lanes.items ≡ old.lanes.items ++ map (λ p. p.packets) ps
  pub counts : new.counts.items ≡ old.counts.items ++ map (λ p. length p.packets.packets) ps
  pub skips : new.skips.items ≡ old.skips.items ++ flat_map (λ p. p.skips.items) ps
  pub devs : new.devs.items ≡ old.devs.items ++ flat_map (λ p. p.devs.items) ps
