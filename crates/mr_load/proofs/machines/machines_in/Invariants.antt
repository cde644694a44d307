use Rattle.std.proofs.Common.{◌≡◌, ◌++◌, drop, map}
use Rattle.mr_load.specs.Kept.{files_kept}
use Rattle.mr_load.specs.Machines.{machine_for, machines_in}
use Rattle.mr_load.proofs.machines.machines_in.Given as goal

abbrev pub invariant-loop-kind : goal.invariant-loop-kind
invariant-loop-kind l = l.machines.items ++ map (machine_for (files_kept l.kept.entries) l.scenario) (drop l.kind-index l.scenario.daemons) ≡ machines_in (files_kept l.kept.entries) l.scenario
