use Rattle.std.proofs.Common.{◌≡◌, ◌∙◌, List, sym, ap, subst, get_or}
use Rattle.std.proofs.lemmas.List.Elements.{All-more, All-get_or}
use mathlib.Core.List.{IsPrefix}
use Rattle.mr_book.specs.declared.view.Known.{Known}
use Rattle.mr_model.specs.declared.entry.Entry.{Entry}
use Rattle.mr_authors.specs.Authors.{own, daemon_author}
use Rattle.mr_router.specs.Callers.{DaemonValue, daemon_sees}
use Rattle.mr_router.proofs.Walking.{changed_was, changed_step, changed_whole, all_whole}
use Rattle.mr_router.proofs.loops.announce_daemons.Goals as goal

pub announce-requires-clause-begins : goal.announce-requires-clause-begins
announce-requires-clause-begins g c =
    let i = c.loop-index.index in
    let xs = c.args.daemons.now in
    let d = c.index-daemons-index.result in
    let inv = c.loop-index.invariant in
    let r = c.args.router.now in
    let was = changed_was (daemon_sees r.seen) i xs c.loop-index.daemons d inv.changed in
    let one : IsPrefix (get_or xs i d).seen r.seen = All-get_or (λ (x : DaemonValue). IsPrefix x.seen r.seen) xs i d c.loop-index-test.true c.requires.begins in
    let here : IsPrefix (get_or c.loop-index.daemons i d).seen r.seen = subst (λ (x : DaemonValue). IsPrefix x.seen r.seen) (sym was) one in
    subst (λ (k : Known Entry). IsPrefix (get_or c.loop-index.daemons i d).seen k.seen) (sym inv.router) here

pub loop-index-preserved : goal.loop-index-preserved
loop-index-preserved g c =
    let i = c.loop-index.index in
    let xs = c.args.daemons.now in
    let d = c.index-daemons-index.result in
    let inv = c.loop-index.invariant in
    let r = c.args.router.now in
    let f = daemon_sees r.seen in
    let le = c.loop-index-test.true in
    let was = changed_was f i xs c.loop-index.daemons d inv.changed in
    let x = get_or c.loop-index.daemons i d in
    let mine : own (daemon_author x.daemon.0) r.seen ≡ own (daemon_author x.daemon.0) x.seen = subst (λ (k : Known Entry). own (daemon_author x.daemon.0) k.seen ≡ own (daemon_author x.daemon.0) x.seen) inv.router c.announce.ensures.own in
    let P = λ (x : DaemonValue). own (daemon_author x.daemon.0) r.seen ≡ own (daemon_author x.daemon.0) x.seen in
    record {
      changed = changed_step f i xs c.loop-index.daemons d c.announce.new.self le inv.changed (c.announce.ensures.daemon ∙ ap (λ (k : Known Entry). daemon_sees k.seen x) inv.router);
      router = c.announce.ensures.from ∙ inv.router;
      owns = All-more P xs i d le inv.owns (subst P was mine);
    }

pub returns-clause-daemons : goal.returns-clause-daemons
returns-clause-daemons g c =
    c.loop-index.invariant.changed ∙ changed_whole (daemon_sees c.args.router.now.seen) c.loop-index.index c.args.daemons.now c.loop-index-test.false c.loop-index.auto.index-end

pub returns-clause-own : goal.returns-clause-own
returns-clause-own g c =
    all_whole (λ (x : DaemonValue). own (daemon_author x.daemon.0) c.args.router.now.seen ≡ own (daemon_author x.daemon.0) x.seen) c.loop-index.index c.args.daemons.now c.loop-index-test.false c.loop-index.invariant.owns
