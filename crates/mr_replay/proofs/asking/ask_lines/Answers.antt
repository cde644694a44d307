use Rattle.mr_replay.proofs.Asked.{ends_full, has_next}
use Rattle.mr_replay.proofs.asking.ask_lines.Goals as goal

pub loop-line-preserved : goal.loop-line-preserved
loop-line-preserved g c =
    has_next c.args.number c.loop-line.line-index c.args.script.now c.line-item.result c.args.daemon.now c.loop-line.daemon c.ask_own.new.daemon
    c.loop-line-test.true c.line-item.is c.loop-line.invariant c.in-Ok.ensures.asks

pub returns-in_default-clause-full : goal.returns-in_default-clause-full
returns-in_default-clause-full g c =
    ends_full g.C.RunName.limits c.args.number c.loop-line.line-index c.args.script.now c.line-item.result c.args.daemon.now c.loop-line.daemon c.ask_own.new.daemon
    c.loop-line-test.true c.line-item.is c.in_default.ensures.its c.loop-line.invariant c.in_default.ensures.full
