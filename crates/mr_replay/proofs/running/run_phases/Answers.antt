use Rattle.std.proofs.Common.{◌≡◌, ◌∙◌, ◌≤◌, ℕ, ap, arith, length, subst, sym}
use Rattle.mr_replay.specs.Running.{HasRun}
use Rattle.mr_replay.proofs.Driving.{behind_next, is_short, run_ends}
use Rattle.mr_replay.proofs.running.run_phases.Goals as goal

pub loop-place-preserved : goal.loop-place-preserved
loop-place-preserved g c = record {
  run = c.in-Ok.ensures.run;
  machines = c.in-Ok.ensures.machines;
  behind = behind_next c.loop-place.place c.args.loaded.now.scenario c.loop-place.router c.run_phase.new.router c.args.machines.items c.loop-place.machines.items c.run_phase.new.machines.items
      (c.in-Ok.ensures.machines.many ∙ sym c.loop-place.invariant.machines.many) c.in-Ok.ensures.driven c.loop-place.invariant.behind;
}

pub returns-in-Err-clause-full : goal.returns-in-Err-clause-full
returns-in-Err-clause-full g c =
    λ e. is_short c.args.loaded.now c.loop-place.place c.loop-place.router c.loop-place.lanes c.loop-place.daemons.items c.args.machines.items c.loop-place.machines.items
    c.requires.can c.loop-place.invariant.machines c.loop-place.invariant.run c.loop-place.invariant.behind (c.run_phase.ensures.cut (c.in-Err.is ∙ e))

pub returns-clause-run : goal.returns-clause-run
returns-clause-run g c =
    let all : c.loop-place.place ≡ length c.args.loaded.now.scenario.phases = omega (arith, c.loop-place-test.false, c.loop-place.auto.place-end, ap length c.phases_of-place-end.ensures) in
    subst (λ (k : ℕ). HasRun c.args.loaded.now k c.loop-place.router c.loop-place.lanes c.loop-place.daemons.items) all c.loop-place.invariant.run

pub returns-clause-made : goal.returns-clause-made
returns-clause-made g c =
    let all : length c.args.loaded.now.scenario.phases ≤ c.loop-place.place = omega (arith, c.loop-place-test.false, ap length c.phases_of-place-end.ensures) in
    λ files i. run_ends c.args.loaded.now c.loop-place.place c.loop-place.router c.loop-place.lanes c.loop-place.daemons.items c.args.machines.items c.loop-place.machines.items
    all c.loop-place.invariant.run c.loop-place.invariant.behind files i
