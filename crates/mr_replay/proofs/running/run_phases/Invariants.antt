use Rattle.mr_replay.specs.Running.{HasRun, MachinesFit}
use Rattle.mr_replay.proofs.Driving.{AreBehind}
use Rattle.mr_replay.proofs.running.run_phases.Given as goal

abbrev pub invariant-loop-place : goal.invariant-loop-place
invariant-loop-place g l = record {
  run : HasRun l.loaded l.place l.router l.lanes l.daemons.items;
  machines : MachinesFit l.loaded.scenario l.machines.items;
  behind : AreBehind l.place l.loaded.scenario.phases l.router l.initial.machines.items l.machines.items;
}
