use Rattle.std.proofs.Common.{◌≡◌, ◌+◌, drop}
use Rattle.std.specs.List.{fold}
use Rattle.mr_load.specs.Naming.{named_on}
use Rattle.mr_load.proofs.naming.name_phases.Given as goal
use Rattle.mr_scenario.specs.Fits.{packets_of}

abbrev pub invariant-loop-phase : goal.invariant-loop-phase
invariant-loop-phase l = record {
  files : fold (λ ns p. named_on ns p.items) l.named.files.entries (drop l.phase-index l.phases) ≡ fold (λ ns p. named_on ns p.items) l.initial.named.files.entries l.phases;
  packets : l.named.packets + packets_of (drop l.phase-index l.phases) ≡ l.initial.named.packets + packets_of l.phases;
}
