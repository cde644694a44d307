use Rattle.std.proofs.Common.{◌∙◌, List, length, sym, subst}
use Rattle.mr_load.specs.Made.{Made}
use Rattle.mr_model.specs.declared.entry.Entry.{Entry}
use Rattle.mr_router.specs.Callers as router
use Rattle.mr_router.specs.Histories.{GoesOn}
use Rattle.mr_replay.proofs.Stepping.{all_written, close_same, run_begins}
use Rattle.mr_replay.proofs.running.run_opened.Goals as goal

pub run_phases-ended-requires-clause-run : goal.run_phases-ended-requires-clause-run
run_phases-ended-requires-clause-run g c κs within =
    run_begins c.args.loaded.now c.in-Ok.field-0.router c.as_mut_slice.result.now c.in-Ok.field-0.daemons.items g.C.RunName.limits c.requires.can c.requires.limits c.in-Ok.ensures.router
    (rw c.as_mut_slice.ensures.value c.in-Ok.ensures.lanes) c.in-Ok.ensures.daemons

pub returns-in-Ok-ended-clause-made : goal.returns-in-Ok-ended-clause-made
returns-in-Ok-ended-clause-made g c = λ files i.
    let limits = g.C.RunName.limits in
    let end = c.close-kernel.result.history in
    let of_lanes = all_written (λ (l : router.LaneValue). GoesOn limits l.lane.0 l.seen end) _ c.run_phases-ended.new.lanes _ (sym (c.run_phases-ended.auto.lanes ∙ c.as_mut_slice.ensures.len)) c.close-kernel.ensures.lanes in
    let same = close_same c.args.loaded.now (length c.args.loaded.now.scenario.phases) limits c.run_phases-ended.new.router end c.run_phases-ended.new.lanes c.run_phases-ended.new.daemons.items c.requires.limits c.requires.can c.in-Ok-ended.ensures.run
    c.close-kernel.ensures.router of_lanes c.close-kernel.ensures.daemons in
    subst (λ (es : List Entry). Made files c.args.loaded.now.scenario es) (sym same) (c.in-Ok-ended.ensures.made files i)
