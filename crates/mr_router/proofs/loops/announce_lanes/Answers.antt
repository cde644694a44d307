use Rattle.std.proofs.Common.{◌≡◌, ◌∙◌, List, sym, ap, subst, get_or}
use Rattle.std.proofs.lemmas.List.Elements.{All-more, All-get_or}
use mathlib.Core.List.{IsPrefix}
use Rattle.mr_book.specs.declared.view.Known.{Known}
use Rattle.mr_model.specs.declared.entry.Entry.{Entry}
use Rattle.mr_authors.specs.Authors.{own, daemon_author}
use Rattle.mr_router.specs.Callers.{LaneValue, lane_sees}
use Rattle.mr_router.proofs.Walking.{changed_was, changed_step, changed_whole, all_whole}
use Rattle.mr_router.proofs.loops.announce_lanes.Goals as goal

pub announce-requires-clause-begins : goal.announce-requires-clause-begins
announce-requires-clause-begins g c =
    let i = c.loop-index.index in
    let xs = c.args.lanes.now in
    let d = c.index-lanes-index.result in
    let inv = c.loop-index.invariant in
    let r = c.args.router.now in
    let was = changed_was (lane_sees r.seen) i xs c.loop-index.lanes d inv.changed in
    let one : IsPrefix (get_or xs i d).seen r.seen = All-get_or (λ (x : LaneValue). IsPrefix x.seen r.seen) xs i d c.loop-index-test.true c.requires.begins in
    let here : IsPrefix (get_or c.loop-index.lanes i d).seen r.seen = subst (λ (x : LaneValue). IsPrefix x.seen r.seen) (sym was) one in
    subst (λ (k : Known Entry). IsPrefix (get_or c.loop-index.lanes i d).seen k.seen) (sym inv.router) here

pub loop-index-preserved : goal.loop-index-preserved
loop-index-preserved g c =
    let i = c.loop-index.index in
    let xs = c.args.lanes.now in
    let d = c.index-lanes-index.result in
    let inv = c.loop-index.invariant in
    let r = c.args.router.now in
    let f = lane_sees r.seen in
    let le = c.loop-index-test.true in
    let was = changed_was f i xs c.loop-index.lanes d inv.changed in
    let x = get_or c.loop-index.lanes i d in
    let mine : own x.lane.0 r.seen ≡ own x.lane.0 x.seen = subst (λ (k : Known Entry). own x.lane.0 k.seen ≡ own x.lane.0 x.seen) inv.router c.announce.ensures.own in
    let P = λ (x : LaneValue). own x.lane.0 r.seen ≡ own x.lane.0 x.seen in
    record {
      changed = changed_step f i xs c.loop-index.lanes d c.announce.new.self le inv.changed (c.announce.ensures.lane ∙ ap (λ (k : Known Entry). lane_sees k.seen x) inv.router);
      router = c.announce.ensures.from ∙ inv.router;
      owns = All-more P xs i d le inv.owns (subst P was mine);
    }

pub returns-clause-lanes : goal.returns-clause-lanes
returns-clause-lanes g c =
    c.loop-index.invariant.changed ∙ changed_whole (lane_sees c.args.router.now.seen) c.loop-index.index c.args.lanes.now c.loop-index-test.false c.loop-index.auto.index-end

pub returns-clause-own : goal.returns-clause-own
returns-clause-own g c =
    all_whole (λ (x : LaneValue). own x.lane.0 c.args.router.now.seen ≡ own x.lane.0 x.seen) c.loop-index.index c.args.lanes.now c.loop-index-test.false c.loop-index.invariant.owns
