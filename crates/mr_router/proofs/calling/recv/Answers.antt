use Rattle.std.proofs.Common.{◌≡◌, ◌∙◌, Option, Some, None, IfSome, [], ◌∷◌, ◌++◌, option_map, refl, ap, subst}
use Rattle.mr_kernel.specs.Flows.{IsHeadOf}
use Rattle.mr_model.specs.declared.message.Told.{Told}
use Rattle.mr_model.specs.Deeds.{Received}
use Rattle.mr_upcall.specs.declared.upcall.Upcall.{Upcall}
use Rattle.mr_router.specs.Deeds.{deeds, told_by}
use Rattle.mr_router.specs.Histories.{Makes}
use Rattle.mr_model.specs.declared.entry.Entry.{Entry}
use Rattle.mr_model.specs.declared.entry.Entry.TheVariants.{Call, Recv, Tick}
use Rattle.mr_authors.specs.Authors.{daemon_author}
use Rattle.mr_router.proofs.Deeding.{daemon_deeds, daemon_idle, some_left, went_made, went_on}
use Rattle.mr_router.proofs.calling.recv.Goals as goal

pub returns-in-Ok-None-clause-ok : goal.returns-in-Ok-None-clause-ok
returns-in-Ok-None-clause-ok g c =
    let e = Recv c.args.daemon.now.daemon None in
    daemon_deeds g.C.RunName.limits c.args.daemon.now c.recv.new.self e c.recv.ensures.daemon c.facts.ensures (subst (λ (o : Option Upcall). Makes g.C.RunName.limits (daemon_author c.args.daemon.now.daemon.0) c.args.daemon.now.seen c.recv.new.self.seen (Recv c.args.daemon.now.daemon (option_map (λ u. u.id) o))) c.in-Ok-None.field-0-is c.in-Ok-None.ensures.entry)

pub returns-in-Ok-None-clause-surely : goal.returns-in-Ok-None-clause-surely
returns-in-Ok-None-clause-surely g c =
    let e = Recv c.args.daemon.now.daemon None in
    let d = c.args.daemon.now in
    λ none. absurd (some_left g.C.RunName.limits d.daemon (daemon_author d.daemon.0) d.seen c.recv.new.self.seen e refl (subst (λ (o : Option Upcall). Makes g.C.RunName.limits (daemon_author c.args.daemon.now.daemon.0) c.args.daemon.now.seen c.recv.new.self.seen (Recv c.args.daemon.now.daemon (option_map (λ u. u.id) o))) c.in-Ok-None.field-0-is c.in-Ok-None.ensures.entry) none)

pub returns-in-Ok-Some-clause-ok : goal.returns-in-Ok-Some-clause-ok
returns-in-Ok-Some-clause-ok g c =
    let u = c.in-Ok-Some.upcall in
    let old = c.args.daemon.now in
    let new = c.recv.new.self in
    let e = Recv c.args.daemon.now.daemon (Some u.id) in
    let head : IsHeadOf new.seen u.id.lane u.id.index u.head = subst (λ (o : Option Upcall). IfSome o (λ u. IsHeadOf new.seen u.id.lane u.id.index u.head)) c.in-Ok-Some.field-0-is c.in-Ok-Some.ensures.head in
    daemon_deeds g.C.RunName.limits old new e c.recv.ensures.daemon c.facts.ensures (subst (λ (o : Option Upcall). Makes g.C.RunName.limits (daemon_author c.args.daemon.now.daemon.0) c.args.daemon.now.seen c.recv.new.self.seen (Recv c.args.daemon.now.daemon (option_map (λ u. u.id) o))) c.in-Ok-Some.field-0-is c.in-Ok-Some.ensures.entry)
    ∙ ap (λ (t : Told). deeds old ++ Received (Some t) ∷ []) (ap (told_by u.id) head.known)

pub returns-in-Ok-Some-clause-surely : goal.returns-in-Ok-Some-clause-surely
returns-in-Ok-Some-clause-surely g c =
    let e = Recv c.args.daemon.now.daemon (Some c.in-Ok-Some.upcall.id) in
    let d = c.args.daemon.now in
    λ none. absurd (some_left g.C.RunName.limits d.daemon (daemon_author d.daemon.0) d.seen c.recv.new.self.seen e refl (subst (λ (o : Option Upcall). Makes g.C.RunName.limits (daemon_author c.args.daemon.now.daemon.0) c.args.daemon.now.seen c.recv.new.self.seen (Recv c.args.daemon.now.daemon (option_map (λ u. u.id) o))) c.in-Ok-Some.field-0-is c.in-Ok-Some.ensures.entry) none)

pub returns-in-Err-clause-err : goal.returns-in-Err-clause-err
returns-in-Err-clause-err g c =
    daemon_idle g.C.RunName.limits c.args.daemon.now c.recv.new.self c.recv.ensures.daemon c.facts.ensures c.in-Err.ensures.goes_on

pub returns-in-Ok-None-clause-went_on : goal.returns-in-Ok-None-clause-went_on
returns-in-Ok-None-clause-went_on g c =
    went_made g.C.RunName.limits c.args.daemon.now c.recv.new.self (Recv c.args.daemon.now.daemon None) c.recv.ensures.daemon (subst (λ (o : Option Upcall). Makes g.C.RunName.limits (daemon_author c.args.daemon.now.daemon.0) c.args.daemon.now.seen c.recv.new.self.seen (Recv c.args.daemon.now.daemon (option_map (λ u. u.id) o))) c.in-Ok-None.field-0-is c.in-Ok-None.ensures.entry)

pub returns-in-Ok-Some-clause-went_on : goal.returns-in-Ok-Some-clause-went_on
returns-in-Ok-Some-clause-went_on g c =
    went_made g.C.RunName.limits c.args.daemon.now c.recv.new.self (Recv c.args.daemon.now.daemon (Some c.in-Ok-Some.upcall.id)) c.recv.ensures.daemon (subst (λ (o : Option Upcall). Makes g.C.RunName.limits (daemon_author c.args.daemon.now.daemon.0) c.args.daemon.now.seen c.recv.new.self.seen (Recv c.args.daemon.now.daemon (option_map (λ u. u.id) o))) c.in-Ok-Some.field-0-is c.in-Ok-Some.ensures.entry)

pub returns-in-Err-clause-went_on : goal.returns-in-Err-clause-went_on
returns-in-Err-clause-went_on g c =
    went_on g.C.RunName.limits c.args.daemon.now c.recv.new.self c.recv.ensures.daemon c.in-Err.ensures.goes_on
