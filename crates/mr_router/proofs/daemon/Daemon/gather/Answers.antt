use Rattle.std.proofs.Common.{◌≡◌, ◌∙◌, ap, sym, subst}
use mathlib.Core.List.{IsPrefix}
use Rattle.mr_book.specs.declared.view.Known.{Known}
use Rattle.mr_model.specs.declared.entry.Entry.{Entry}
use Rattle.mr_router.specs.Callers.{DaemonValue}
use Rattle.mr_router.specs.Seats.{HoldsDaemon}
use Rattle.mr_router.proofs.daemon.Daemon.gather.Goals as goal

pub invariant_of-self : goal.invariant_of-self
invariant_of-self g c =
    subst (HoldsDaemon g.C.RunName.limits c.self.inside.number c.self.inside.left) (sym c.gather.ensures.from) c.self.invariant

pub returns-clause-daemon : goal.returns-clause-daemon
returns-clause-daemon g c =
    let l = c.self.inside in
    let value : Known Entry → DaemonValue = λ s. record { daemon = l.number; seen = s.seen } in
    ap value c.gather.ensures.from ∙ c.self.view_is

pub returns-clause-all_of_daemon : goal.returns-clause-all_of_daemon
returns-clause-all_of_daemon g c =
    subst (λ (v : DaemonValue). IsPrefix v.seen c.gather.new.into.seen) c.self.view_is c.gather.ensures.all_of_from
