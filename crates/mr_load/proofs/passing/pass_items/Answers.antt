use Rattle.mr_load.specs.Kept.{contents_kept}
use Rattle.mr_load.proofs.LanePasses.{keeps_first, keeps_item, ready_one, items_passed}
use Rattle.mr_load.proofs.passing.pass_items.Goals as goal

pub loop-item-init : goal.loop-item-init
loop-item-init c = keeps_first (contents_kept c.args.traces.now.entries) c.args.phase c.args.items.now c.args.lanes.now.items c.requires.ready

pub pass_one-requires-clause-ready : goal.pass_one-requires-clause-ready
pass_one-requires-clause-ready c =
    ready_one (contents_kept c.args.traces.now.entries) c.args.phase c.loop-item.item-index c.args.items.now c.item-item.result c.loop-item.lanes.items c.loop-item-test.true c.item-item.is c.loop-item.invariant.ready

pub loop-item-preserved : goal.loop-item-preserved
loop-item-preserved c =
    keeps_item (contents_kept c.args.traces.now.entries) c.args.phase c.loop-item.item-index c.args.items.now c.item-item.result c.args.lanes.now.items c.loop-item.lanes.items c.pass_one.new.lanes.items
    c.loop-item-test.true c.item-item.is c.loop-item.invariant c.in_ok-pass_one.ensures

pub returns : goal.returns
returns c =
    items_passed (contents_kept c.args.traces.now.entries) c.args.phase c.loop-item.item-index c.args.items.now c.args.lanes.now.items c.loop-item.lanes.items c.loop-item-test.false c.loop-item.invariant
