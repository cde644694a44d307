use Rattle.std.proofs.Common.{◌≡◌, ◌∙◌, ◌++◌, List, drop, length, map, subst, sym, take}
use Rattle.mr_replay.specs.Turns.{AllTurn}
use Rattle.mr_replay.proofs.Stepping.{PhaseEnds, end_room, on_ok, phase_got, phase_runs, taken}
use Rattle.mr_router.specs.Callers.{DaemonValue, daemon_sees}
use Rattle.mr_replay.proofs.running.run_phase.Goals as goal

pub end_phase-requires : goal.end_phase-requires
end_phase-requires g c =
    let p = c.index-phases_of-place.result in
    let at = phase_got c.args.loaded.now.scenario.phases c.args.place p c.requires.place (rw c.phases_of.ensures at c.index-phases_of-place.is) in
    record { room = end_room c.args.loaded.now c.args.place p c.args.router.now g.C.RunName.limits c.requires.limits c.requires.can at c.requires.run.ended }

pub returns : goal.returns
returns g c =
    let l = c.args.loaded.now in
    let p = c.index-phases_of-place.result in
    let at = phase_got l.scenario.phases c.args.place p c.requires.place (rw c.phases_of.ensures at c.index-phases_of-place.is) in
    let limits = g.C.RunName.limits in
    let stop = c.run_callers-ended.result in
    let new = c.end_phase.new.self in
    let ms = c.args.machines.now.items in
    let ms' = c.run_callers-ended.new.machines.items in
    let mid : List DaemonValue = c.as_mut_slice.result.now in
    let after : List DaemonValue = take c.run_callers-ended.new.daemons.len (c.end_phase.new.daemons ++ drop (length c.end_phase.new.daemons) c.run_callers-ended.new.daemons.items) in
    let seen : after ≡ map (daemon_sees new) mid =
    taken _ c.end_phase.new.daemons _ (sym (c.end_phase.auto.daemons ∙ c.as_mut_slice.ensures.len)) ∙ c.end_phase.ensures.daemons in
    let turns : AllTurn limits p.script stop c.args.daemons.now.items ms mid ms' =
    subst (λ (ds : List DaemonValue). AllTurn limits p.script stop c.args.daemons.now.items ms ds ms') (sym c.as_mut_slice.ensures.value) (rw c.lines_of-script.ensures at c.run_callers-ended.ensures.ask) in
    let ends : PhaseEnds l c.args.place c.args.router.now new c.end_phase.new.lanes after ms ms' stop =
    phase_runs l c.args.place p limits stop c.args.router.now new c.args.lanes.now c.run_callers-ended.new.lanes c.end_phase.new.lanes c.args.daemons.now.items mid after ms ms'
    c.requires.limits c.requires.can at c.requires.run c.requires.machines (rw c.lanes_of-packets.ensures at c.run_callers-ended.ensures.send) turns
    c.end_phase.ensures.ends c.end_phase.ensures.own_of_lanes c.end_phase.ensures.own_of_daemons c.end_phase.ensures.lanes seen in
    record {
      run = on_ok stop _ (λ ok. (ends.ran ok).run);
      machines = on_ok stop _ (λ ok. (ends.ran ok).machines);
      driven = on_ok stop _ (λ ok. (ends.ran ok).driven);
      cut = ends.cut;
    }
