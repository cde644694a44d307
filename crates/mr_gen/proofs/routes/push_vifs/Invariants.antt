use Rattle.std.proofs.Common.{◌≡◌, ◌-◌, ◌++◌, map}
use Rattle.mr_gen.specs.Entries.{add_vif, asks}
use Rattle.mr_load.specs.Callers.{from_on}
use Rattle.mr_gen.proofs.routes.push_vifs.Given as goal

abbrev pub invariant-loop-i : goal.invariant-loop-i
invariant-loop-i l = l.lines.items ++ map (λ k. asks (add_vif k)) (from_on l.i (4 - l.i)) ≡ l.initial.lines.items ++ map (λ k. asks (add_vif k)) (from_on 0 4)
