use Rattle.std.proofs.Common.{arith, length}
use Rattle.mr_load.specs.Kept.{contents_kept}
use Rattle.mr_load.specs.Passing.{IsOpen}
use Rattle.mr_load.proofs.LanePasses.{one_passes, its_open}
use Rattle.mr_load.proofs.passing.pass_one.Goals as goal

pub pass_line-requires-clause-first : goal.pass_line-requires-clause-first
pass_line-requires-clause-first c =
    (its_open c.args.phase _ _ c.args.item.now.lane.0 c.args.lanes.now.items c.index_mut.result.now (omega (arith, c.requires.lane.least)) (omega (arith, c.requires.lane)) c.index_mut.ensures.value c.requires.ready).first

pub pass_line-requires-clause-before : goal.pass_line-requires-clause-before
pass_line-requires-clause-before c =
    (its_open c.args.phase _ _ c.args.item.now.lane.0 c.args.lanes.now.items c.index_mut.result.now (omega (arith, c.requires.lane.least)) (omega (arith, c.requires.lane)) c.index_mut.ensures.value c.requires.ready).before

pub pass_line-requires-clause-next : goal.pass_line-requires-clause-next
pass_line-requires-clause-next c =
    let its = its_open c.args.phase _ _ c.args.item.now.lane.0 c.args.lanes.now.items c.index_mut.result.now (omega (arith, c.requires.lane.least)) (omega (arith, c.requires.lane)) c.index_mut.ensures.value c.requires.ready in
    omega (arith, its.fits)

pub returns : goal.returns
returns c =
    one_passes (contents_kept c.args.traces.now.entries) c.args.phase (length (contents_kept c.args.traces.now.entries c.args.item.now.given)) _ c.args.item.now c.args.lanes.now.items c.index_mut.result.now c.pass_line.new.passed
    (omega (arith, c.requires.lane.least)) (omega (arith, c.requires.lane)) c.index_mut.ensures.value c.requires.ready c.in_ok-pass_line.ensures
