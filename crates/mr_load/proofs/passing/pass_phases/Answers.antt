use Rattle.std.proofs.Common.{refl, ◌∙◌}
use Rattle.mr_load.specs.Kept.{contents_kept}
use Rattle.mr_load.proofs.LanePasses.{phases_first, phases_open, phases_on, phases_count, phases_passed}
use Rattle.mr_load.proofs.passing.pass_phases.Goals as goal

pub loop-i-init : goal.loop-i-init
loop-i-init c = record {
  passed = phases_first (contents_kept c.args.traces.now.entries) c.args.lanes.now.items c.requires.fresh;
  count = refl;
}

pub pass_items-requires-clause-ready : goal.pass_items-requires-clause-ready
pass_items-requires-clause-ready c =
    rw c.items_of.ensures
    (phases_open (contents_kept c.args.traces.now.entries) c.loop-i.i c.args.phases.now c.index-phases-i.result c.loop-i.lanes.items c.loop-i-test.true c.index-phases-i.is c.requires.items c.loop-i.invariant.passed)

pub loop-i-preserved : goal.loop-i-preserved
loop-i-preserved c =
    let C = contents_kept c.args.traces.now.entries in
    let passes = rw c.items_of.ensures at c.in_ok-pass_items.ensures in
    record {
      passed = phases_on C c.loop-i.i c.args.phases.now c.index-phases-i.result c.loop-i.lanes.items c.pass_items.new.lanes.items c.loop-i-test.true c.index-phases-i.is c.loop-i.invariant.passed passes;
      count = phases_count C c.loop-i.i c.index-phases-i.result c.loop-i.lanes.items c.pass_items.new.lanes.items passes ∙ c.loop-i.invariant.count;
    }

pub returns-clause-passed : goal.returns-clause-passed
returns-clause-passed c = phases_passed (contents_kept c.args.traces.now.entries) c.loop-i.i c.args.phases.now c.loop-i.lanes.items c.loop-i-test.false c.loop-i.invariant.passed
