use Rattle.std.proofs.Common.{◌∙◌, inr, refl, subst, sym}
use Rattle.mr_base.specs.Outside.{AllStay}
use Rattle.mr_replay.proofs.Egressing.{rose_still}
use Rattle.mr_replay.proofs.Ending.{at_fault, either, if_fault, keeps_sink, no_conf, no_full, no_read, no_scenario, no_silent, no_trace, no_usage, sink_stays, wrote_cut, wrote_first, wrote_good, wrote_until}
use Rattle.mr_replay.proofs.Ready.{can_run, these_fit}
use Rattle.mr_replay.proofs.Coming.{calls_written, ends_written, replays, with_its_own}
use Rattle.mr_replay.specs.Egress.{egress_by, text_by}
use Rattle.mr_replay.proofs.replaying.replay.Goals as goal

pub run_loaded-requires : goal.run_loaded-requires
run_loaded-requires g c =
    let files = c.in-Ok.ensures.loads.files in
    let is = c.in-Ok.ensures.loads.loads.1 in
    let machines = these_fit files c.in-Ok.loaded c.machines.inside.0.items (c.machines.view_is ∙ c.replace-machines.ensures.value) is in
    (record { shared = c.type_bounds.sync-R.shared }, (record { shared = c.type_bounds.sync-G.shared }, (can_run files c.in-Ok.loaded c.replace-machines.new.dest is, machines)))

pub write_outputs-requires : goal.write_outputs-requires
write_outputs-requires g c = can_run c.in-Ok.ensures.loads.files c.in-Ok.loaded c.replace-machines.new.dest c.in-Ok.ensures.loads.loads.1

pub returns-in-Ok-run_loaded-clause-good : goal.returns-in-Ok-run_loaded-clause-good
returns-in-Ok-run_loaded-clause-good g c =
    λ e. replays (g.S.Store.told c.args.store.now) c.in-Ok.ensures.loads.files c.args.file.now c.in-Ok.loaded c.in-Ok-run_loaded.kernel _
    (record { told_is = c.in-Ok.ensures.loads.told_is; loads = c.in-Ok.ensures.loads.loads.0; is = c.in-Ok.ensures.loads.loads.1; limits = c.in-Ok-run_loaded.ensures.limits; legal = c.facts.ensures.legal; made = c.in-Ok-run_loaded.ensures.made c.in-Ok.ensures.loads.files (with_its_own c.in-Ok.ensures.loads.files c.in-Ok.loaded c.machines.inside.0.items (c.machines.view_is ∙ c.replace-machines.ensures.value) c.in-Ok.ensures.loads.loads.1) })
    (wrote_good c.write_outputs.result _ (g.K.Sink.taken c.args.out.now) (g.K.Sink.taken c.write_outputs.new.out) (g.S.Store.told c.args.store.now) (g.S.Store.told c.load.new.store) (g.S.Store.told c.write_outputs.new.store)
    (text_by c.in-Ok.loaded c.in-Ok-run_loaded.kernel) (egress_by c.in-Ok.loaded c.in-Ok-run_loaded.kernel) c.load.ensures.files e c.write_outputs.ensures.written)

pub returns-in-Ok-run_loaded-clause-sink_fault : goal.returns-in-Ok-run_loaded-clause-sink_fault
returns-in-Ok-run_loaded-clause-sink_fault g c =
    λ e. replays (g.S.Store.told c.args.store.now) c.in-Ok.ensures.loads.files c.args.file.now c.in-Ok.loaded c.in-Ok-run_loaded.kernel _
    (record { told_is = c.in-Ok.ensures.loads.told_is; loads = c.in-Ok.ensures.loads.loads.0; is = c.in-Ok.ensures.loads.loads.1; limits = c.in-Ok-run_loaded.ensures.limits; legal = c.facts.ensures.legal; made = c.in-Ok-run_loaded.ensures.made c.in-Ok.ensures.loads.files (with_its_own c.in-Ok.ensures.loads.files c.in-Ok.loaded c.machines.inside.0.items (c.machines.view_is ∙ c.replace-machines.ensures.value) c.in-Ok.ensures.loads.loads.1) })
    (wrote_cut c.write_outputs.result _ (g.K.Sink.taken c.args.out.now) (g.K.Sink.taken c.write_outputs.new.out) (g.S.Store.told c.load.new.store) (g.S.Store.told c.write_outputs.new.store)
    (text_by c.in-Ok.loaded c.in-Ok-run_loaded.kernel) (egress_by c.in-Ok.loaded c.in-Ok-run_loaded.kernel) e c.write_outputs.ensures.written)

pub returns-in-Ok-run_loaded-clause-memory : goal.returns-in-Ok-run_loaded-clause-memory
returns-in-Ok-run_loaded-clause-memory g c =
    λ e. either (wrote_first c.write_outputs.result _ (g.K.Sink.taken c.args.out.now) (g.K.Sink.taken c.write_outputs.new.out) (g.S.Store.told c.args.store.now) (g.S.Store.told c.load.new.store) (g.S.Store.told c.write_outputs.new.store)
    (text_by c.in-Ok.loaded c.in-Ok-run_loaded.kernel) (egress_by c.in-Ok.loaded c.in-Ok-run_loaded.kernel) c.load.ensures.files e c.write_outputs.ensures.written)
    (λ n. (n.0, subst (λ x. AllStay (g.S.Store.told c.args.store.now) (g.S.Store.told x)) (sym n.1) c.load.ensures.files))
    (replays (g.S.Store.told c.args.store.now) c.in-Ok.ensures.loads.files c.args.file.now c.in-Ok.loaded c.in-Ok-run_loaded.kernel _
    (record { told_is = c.in-Ok.ensures.loads.told_is; loads = c.in-Ok.ensures.loads.loads.0; is = c.in-Ok.ensures.loads.loads.1; limits = c.in-Ok-run_loaded.ensures.limits; legal = c.facts.ensures.legal; made = c.in-Ok-run_loaded.ensures.made c.in-Ok.ensures.loads.files (with_its_own c.in-Ok.ensures.loads.files c.in-Ok.loaded c.machines.inside.0.items (c.machines.view_is ∙ c.replace-machines.ensures.value) c.in-Ok.ensures.loads.loads.1) }))

pub returns-in-Ok-run_loaded-clause-write_fault : goal.returns-in-Ok-run_loaded-clause-write_fault
returns-in-Ok-run_loaded-clause-write_fault g c =
    if_fault c.write_outputs.result _ (λ name e. λ last. replays (g.S.Store.told c.args.store.now) c.in-Ok.ensures.loads.files c.args.file.now c.in-Ok.loaded c.in-Ok-run_loaded.kernel _
    (record { told_is = c.in-Ok.ensures.loads.told_is; loads = c.in-Ok.ensures.loads.loads.0; is = c.in-Ok.ensures.loads.loads.1; limits = c.in-Ok-run_loaded.ensures.limits; legal = c.facts.ensures.legal; made = c.in-Ok-run_loaded.ensures.made c.in-Ok.ensures.loads.files (with_its_own c.in-Ok.ensures.loads.files c.in-Ok.loaded c.machines.inside.0.items (c.machines.view_is ∙ c.replace-machines.ensures.value) c.in-Ok.ensures.loads.loads.1) })
    (wrote_until c.write_outputs.result name _ (g.K.Sink.taken c.args.out.now) (g.K.Sink.taken c.write_outputs.new.out) (g.S.Store.told c.args.store.now) (g.S.Store.told c.load.new.store) (g.S.Store.told c.write_outputs.new.store)
    (text_by c.in-Ok.loaded c.in-Ok-run_loaded.kernel) (egress_by c.in-Ok.loaded c.in-Ok-run_loaded.kernel) c.load.ensures.files e c.write_outputs.ensures.written))

pub returns-in-Ok-run_loaded-clause-read_fault : goal.returns-in-Ok-run_loaded-clause-read_fault
returns-in-Ok-run_loaded-clause-read_fault g c =
    if_fault c.write_outputs.result _ (λ name e. λ r. no_read _ name _ (at_fault c.write_outputs.result _ name e c.write_outputs.ensures.last) r)

pub returns-in-Ok-run_loaded-clause-read_fault_silent : goal.returns-in-Ok-run_loaded-clause-read_fault_silent
returns-in-Ok-run_loaded-clause-read_fault_silent g c =
    if_fault c.write_outputs.result _ (λ name e. λ r. no_read _ name _ (at_fault c.write_outputs.result _ name e c.write_outputs.ensures.last) r)

pub returns-in-Ok-run_loaded-clause-read_fault_files : goal.returns-in-Ok-run_loaded-clause-read_fault_files
returns-in-Ok-run_loaded-clause-read_fault_files g c =
    if_fault c.write_outputs.result _ (λ name e. λ r. no_read _ name _ (at_fault c.write_outputs.result _ name e c.write_outputs.ensures.last) r)

pub returns-in-Ok-run_loaded-clause-store_last : goal.returns-in-Ok-run_loaded-clause-store_last
returns-in-Ok-run_loaded-clause-store_last g c =
    if_fault c.write_outputs.result _ (λ name e. inr (at_fault c.write_outputs.result _ name e c.write_outputs.ensures.last))

pub returns-in-Ok-run_loaded-clause-store_rose : goal.returns-in-Ok-run_loaded-clause-store_rose
returns-in-Ok-run_loaded-clause-store_rose g c =
    rose_still c.write_outputs.result _ _ _ (c.in-Ok.ensures.good refl) c.write_outputs.ensures.rose

pub returns-in-Ok-run_loaded-clause-calls : goal.returns-in-Ok-run_loaded-clause-calls
returns-in-Ok-run_loaded-clause-calls g c =
    calls_written (g.S.Store.told c.args.store.now) c.args.file.now c.in-Ok.ensures.loads.files c.in-Ok.loaded c.in-Ok-run_loaded.kernel c.write_outputs.result _ (g.S.Store.calls c.load.new.store) _ c.in-Ok.ensures.loads.told_is c.in-Ok.ensures.loads.loads.0 c.in-Ok.ensures.loads.reads c.write_outputs.ensures.calls c.write_outputs.ensures.only

pub returns-in-Ok-run_loaded-clause-silent : goal.returns-in-Ok-run_loaded-clause-silent
returns-in-Ok-run_loaded-clause-silent g c =
    λ e. no_silent c.write_outputs.result _ c.write_outputs.ensures.only e

pub returns-in-Ok-run_loaded-clause-files : goal.returns-in-Ok-run_loaded-clause-files
returns-in-Ok-run_loaded-clause-files g c =
    λ e. sink_stays c.write_outputs.result _ (g.K.Sink.taken c.args.out.now) (g.K.Sink.taken c.write_outputs.new.out) (g.S.Store.told c.args.store.now) (g.S.Store.told c.load.new.store) (g.S.Store.told c.write_outputs.new.store)
    (text_by c.in-Ok.loaded c.in-Ok-run_loaded.kernel) (egress_by c.in-Ok.loaded c.in-Ok-run_loaded.kernel) c.load.ensures.files (keeps_sink c.write_outputs.result c.write_outputs.ensures.only e) c.write_outputs.ensures.written

pub returns-in-Ok-run_loaded-clause-run : goal.returns-in-Ok-run_loaded-clause-run
returns-in-Ok-run_loaded-clause-run g c =
    λ e. no_usage c.write_outputs.result _ c.write_outputs.ensures.only e

pub returns-in-Ok-run_loaded-clause-control_full : goal.returns-in-Ok-run_loaded-clause-control_full
returns-in-Ok-run_loaded-clause-control_full g c =
    λ e. no_full c.write_outputs.result _ c.write_outputs.ensures.only e

pub returns-in-Ok-run_loaded-clause-scenario : goal.returns-in-Ok-run_loaded-clause-scenario
returns-in-Ok-run_loaded-clause-scenario g c =
    no_scenario c.write_outputs.result _ c.write_outputs.ensures.only

pub returns-in-Ok-run_loaded-clause-trace : goal.returns-in-Ok-run_loaded-clause-trace
returns-in-Ok-run_loaded-clause-trace g c =
    no_trace c.write_outputs.result _ c.write_outputs.ensures.only

pub returns-in-Ok-run_loaded-clause-conf : goal.returns-in-Ok-run_loaded-clause-conf
returns-in-Ok-run_loaded-clause-conf g c =
    no_conf c.write_outputs.result _ c.write_outputs.ensures.only

pub returns-in-Ok-run_loaded-clause-complete : goal.returns-in-Ok-run_loaded-clause-complete
returns-in-Ok-run_loaded-clause-complete g c =
    λ its told ns nk. ends_written (g.S.Store.told c.args.store.now) c.in-Ok.ensures.loads.files its c.args.file.now c.in-Ok.loaded c.in-Ok-run_loaded.kernel c.write_outputs.result
    (record { told_is = c.in-Ok.ensures.loads.told_is; loads = c.in-Ok.ensures.loads.loads.0; is = c.in-Ok.ensures.loads.loads.1; limits = c.in-Ok-run_loaded.ensures.limits; legal = c.facts.ensures.legal; made = c.in-Ok-run_loaded.ensures.made c.in-Ok.ensures.loads.files (with_its_own c.in-Ok.ensures.loads.files c.in-Ok.loaded c.machines.inside.0.items (c.machines.view_is ∙ c.replace-machines.ensures.value) c.in-Ok.ensures.loads.loads.1) })
    told c.write_outputs.ensures.only (λ sink. nk (c.write_outputs.ensures.sink_rose sink))
    (if_fault c.write_outputs.result _ (λ name e. ns (at_fault c.write_outputs.result _ name e (rose_still c.write_outputs.result _ _ _ (c.in-Ok.ensures.good refl) c.write_outputs.ensures.rose))))
