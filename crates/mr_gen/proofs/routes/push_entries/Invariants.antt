use Rattle.std.proofs.Common.{◌≡◌, ◌-◌, ◌++◌, map}
use Rattle.mr_gen.specs.Entries.{add_entry, asks}
use Rattle.mr_load.specs.Callers.{from_on}
use Rattle.mr_gen.proofs.routes.push_entries.Given as goal

abbrev pub invariant-loop-entry : goal.invariant-loop-entry
invariant-loop-entry l = l.lines.items ++ map (λ k. asks (add_entry k)) (from_on l.entry (64 - l.entry)) ≡ l.initial.lines.items ++ map (λ k. asks (add_entry k)) (from_on 0 64)
