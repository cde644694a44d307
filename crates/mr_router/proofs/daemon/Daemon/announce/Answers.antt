use Rattle.std.proofs.Common.{◌≡◌, ◌∙◌, List, ap, sym, subst}
use mathlib.Core.List.{IsPrefix}
use Rattle.mr_book.specs.declared.view.Known.{Known}
use Rattle.mr_book.proofs.Owns.{own_one}
use Rattle.mr_model.specs.declared.entry.Entry.{Entry}
use Rattle.mr_authors.specs.Authors.{author, own, daemon_author}
use Rattle.mr_router.specs.Callers.{DaemonValue, daemon_sees}
use Rattle.mr_router.specs.Seats.{HoldsDaemon}
use Rattle.mr_router.proofs.Holding.{daemon_sees_more}
use Rattle.mr_router.proofs.daemon.Daemon.announce.Goals as goal

pub announce-requires-clause-begins : goal.announce-requires-clause-begins
announce-requires-clause-begins g c =
    subst (λ (v : DaemonValue). IsPrefix v.seen c.args.from.now.seen) (sym c.self.view_is) c.requires.begins

pub invariant_of-self : goal.invariant_of-self
invariant_of-self g c =
    let l = c.self.inside in
    let k = l.seat in
    let limits = g.C.RunName.limits in
    let h = c.args.from.now.seen in
    let begins : IsPrefix k.seen h = subst (λ (v : DaemonValue). IsPrefix v.seen h) (sym c.self.view_is) c.requires.begins in
    let same = own_one author k.owns (daemon_author l.number.0) (own (daemon_author l.number.0) k.seen) h c.self.invariant.seat.owns c.announce.ensures.own in
    subst (HoldsDaemon limits l.number c.args.left) (sym c.announce.ensures.into) (daemon_sees_more limits l.number l.left c.args.left k h c.self.invariant begins same c.requires.left)

pub returns-clause-daemon : goal.returns-clause-daemon
returns-clause-daemon g c =
    let l = c.self.inside in
    let h = c.args.from.now.seen in
    let value : Known Entry → DaemonValue = λ s. record { daemon = l.number; seen = s.seen } in
    ap value c.announce.ensures.into ∙ ap (daemon_sees h) c.self.view_is

pub returns-clause-own : goal.returns-clause-own
returns-clause-own g c =
    let l = c.self.inside in
    let k = l.seat in
    let h = c.args.from.now.seen in
    let same = own_one author k.owns (daemon_author l.number.0) (own (daemon_author l.number.0) k.seen) h c.self.invariant.seat.owns c.announce.ensures.own in
    subst (λ (v : DaemonValue). own (daemon_author v.daemon.0) h ≡ own (daemon_author v.daemon.0) v.seen) c.self.view_is same
