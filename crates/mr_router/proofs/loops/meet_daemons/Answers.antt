use Rattle.std.proofs.Common.{◌≡◌, ◌∙◌, [], ◌∷◌, ◌++◌, List, All, ap, sym, subst, append-nil}
use Rattle.std.proofs.lemmas.List.Elements.{All-nil, All-cons, All-weaker}
use mathlib.Core.List.{IsPrefix}
use Rattle.mr_book.specs.declared.view.Known.{Known}
use Rattle.mr_book.specs.Views.{met}
use Rattle.mr_model.specs.declared.entry.Entry.{Entry}
use Rattle.mr_authors.specs.Authors.{daemon_author}
use Rattle.mr_router.specs.Callers.{DaemonValue}
use Rattle.mr_router.specs.Seats.{KnowsAll, KnowsDaemon}
use Rattle.mr_router.proofs.Walking.{knows_self, knows_all_more, knows_more, knows_new, popped, drained}
use Rattle.mr_router.proofs.loops.meet_daemons.Goals as goal

pub loop-daemon-init : goal.loop-daemon-init
loop-daemon-init g c = record {
  router = knows_self c.args.router.now;
  met = ([], sym (append-nil c.args.daemons.items), All-nil (KnowsDaemon c.args.router.now));
}

pub loop-daemon-preserved : goal.loop-daemon-preserved
loop-daemon-preserved g c =
    let k = c.loop-daemon.router in
    let w = c.into_seat.result in
    let inv = c.loop-daemon.invariant in
    let is = c.meet.ensures.met in
    let into : IsPrefix k.seen (met k w).seen = subst (λ (v : Known Entry). IsPrefix k.seen v.seen) is c.meet.ensures.into in
    let from : IsPrefix w.seen (met k w).seen = subst (λ (v : Known Entry). IsPrefix w.seen v.seen) is c.meet.ensures.from in
    let one : KnowsDaemon (met k w) c.in-Some.daemon = knows_new k w (daemon_author c.in-Some.daemon.daemon.0) c.in-Some.daemon.seen c.into_seat.ensures.seat c.into_seat.ensures.seen from in
    let known : All (KnowsDaemon (met k w)) (c.in-Some.daemon ∷ inv.met.0) = All-cons (KnowsDaemon (met k w)) c.in-Some.daemon inv.met.0 one (All-weaker (KnowsDaemon k) (KnowsDaemon (met k w)) (λ (x : DaemonValue) (h : KnowsDaemon k x). knows_more k w (daemon_author x.daemon.0) x.seen into h) inv.met.0 inv.met.2) in
    record {
      router = subst (λ (v : Known Entry). KnowsAll v c.args.router.now) (sym is) (knows_all_more k w c.args.router.now into inv.router);
      met = (c.in-Some.daemon ∷ inv.met.0, popped c.args.daemons.items c.loop-daemon.daemons.items c.pop.new.self.items inv.met.0 c.in-Some.daemon c.pop.result inv.met.1 c.pop.ensures.items c.in-Some.is, subst (λ (v : Known Entry). All (KnowsDaemon v) (c.in-Some.daemon ∷ inv.met.0)) (sym is) known);
    }

pub returns-clause-daemons : goal.returns-clause-daemons
returns-clause-daemons g c =
    let met = c.loop-daemon.invariant.met in
    let p = c.pop.ensures in
    let none = drained c.loop-daemon.daemons.items c.pop.new.self.items _ _ c.pop.result _ c.in_default.is p.items p.rest p.cases in
    subst (All (KnowsDaemon c.loop-daemon.router)) (sym (met.1 ∙ ap (λ (b : List DaemonValue). b ++ met.0) none)) met.2
