use Rattle.std.proofs.Common.{◌≡◌, ◌∙◌, Some, None, map, option_map, refl, ap}
use Rattle.mr_kernel.specs.Flows.{id_of, slow_flow}
use Rattle.mr_model.specs.declared.entry.Entry.{Entry}
use Rattle.mr_model.specs.declared.entry.Entry.TheVariants.{Call, Recv, Tick}
use Rattle.mr_authors.specs.Authors.{daemon_author}
use Rattle.mr_router.proofs.Deeding.{daemon_deeds, daemon_idle, some_left, went_made, went_on}
use Rattle.mr_router.proofs.calling.tick.Goals as goal

pub returns-in-Ok-clause-ok : goal.returns-in-Ok-clause-ok
returns-in-Ok-clause-ok g c =
    let e = Tick c.args.daemon.now.daemon c.args.ms in
    daemon_deeds g.C.RunName.limits c.args.daemon.now c.tick.new.self e c.tick.ensures.daemon c.facts.ensures c.in-Ok.ensures.entry

pub returns-in-Ok-clause-surely : goal.returns-in-Ok-clause-surely
returns-in-Ok-clause-surely g c =
    let e = Tick c.args.daemon.now.daemon c.args.ms in
    let d = c.args.daemon.now in
    λ none. absurd (some_left g.C.RunName.limits d.daemon (daemon_author d.daemon.0) d.seen c.tick.new.self.seen e refl c.in-Ok.ensures.entry none)

pub returns-in-Err-clause-err : goal.returns-in-Err-clause-err
returns-in-Err-clause-err g c =
    daemon_idle g.C.RunName.limits c.args.daemon.now c.tick.new.self c.tick.ensures.daemon c.facts.ensures c.in-Err.ensures.goes_on

pub returns-in-Ok-clause-went_on : goal.returns-in-Ok-clause-went_on
returns-in-Ok-clause-went_on g c =
    went_made g.C.RunName.limits c.args.daemon.now c.tick.new.self (Tick c.args.daemon.now.daemon c.args.ms) c.tick.ensures.daemon c.in-Ok.ensures.entry

pub returns-in-Err-clause-went_on : goal.returns-in-Err-clause-went_on
returns-in-Err-clause-went_on g c =
    went_on g.C.RunName.limits c.args.daemon.now c.tick.new.self c.tick.ensures.daemon c.in-Err.ensures.goes_on
