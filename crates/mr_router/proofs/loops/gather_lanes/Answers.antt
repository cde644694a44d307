use Rattle.std.proofs.Common.{◌≡◌, ◌∙◌, List, ap, subst, get_or}
use Rattle.std.proofs.lemmas.List.Elements.{All-more}
use mathlib.Core.List.{IsPrefix}
use Rattle.mr_book.specs.Views.{with_seen}
use Rattle.mr_router.specs.Callers.{LaneValue}
use Rattle.mr_router.proofs.Walking.{same_step, all_whole, prefix_trans, seen_more}
use Rattle.mr_router.proofs.loops.gather_lanes.Goals as goal

pub loop-index-preserved : goal.loop-index-preserved
loop-index-preserved g c =
    let i = c.loop-index.index in
    let xs = c.args.lanes.now in
    let d = c.index-lanes-index.result in
    let inv = c.loop-index.invariant in
    let h = c.gather.new.into.seen in
    let le = c.loop-index-test.true in
    let one : IsPrefix (get_or xs i d).seen h = subst (λ (zs : List LaneValue). IsPrefix (get_or zs i d).seen h) inv.same c.gather.ensures.all_of_lane in
    record {
      same = same_step i xs c.loop-index.lanes d c.gather.new.self le inv.same c.gather.ensures.lane;
      router = c.gather.ensures.into ∙ ap (with_seen h) inv.router;
      begins = prefix_trans c.args.router.now.seen c.loop-index.router.seen h inv.begins c.gather.ensures.all_of_into;
      all = All-more (λ (x : LaneValue). IsPrefix x.seen h) xs i d le (seen_more (λ (x : LaneValue). x.seen) c.loop-index.router.seen h _ c.gather.ensures.all_of_into inv.all) one;
    }

pub returns-clause-all_of_lanes : goal.returns-clause-all_of_lanes
returns-clause-all_of_lanes g c =
    all_whole (λ (x : LaneValue). IsPrefix x.seen c.loop-index.router.seen) c.loop-index.index c.args.lanes.now c.loop-index-test.false c.loop-index.invariant.all
