use Rattle.std.specs.Prelude.{◌≡◌, replicate}
use Rattle.mr_publish.specs.Values.{first_sight}
use Rattle.mr_publish.proofs.pair.lookers_of.Given as goal

-- so many lookers are made, and none of them has seen anything
abbrev pub invariant-loop : goal.invariant-loop
invariant-loop g l = l.lookers.items ≡ replicate l.counter first_sight
