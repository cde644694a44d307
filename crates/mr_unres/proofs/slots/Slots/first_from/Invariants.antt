use Rattle.std.proofs.Common.{◌≡◌, [], take}
use Rattle.mr_unres.specs.Slots.{somes}
use Rattle.mr_unres.proofs.slots.Slots.first_from.Given as goal

abbrev pub invariant-loop-place : goal.invariant-loop-place
invariant-loop-place l = somes (take l.place l.self.items) ≡ []
