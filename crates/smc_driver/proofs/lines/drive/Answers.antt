use Rattle.std.proofs.Common.{◌≡◌, ◌∙◌, ◌≤◌, arith}
use Rattle.std.specs.List.{fold}
use Rattle.smc_core.specs.Driving.{Course, driven}
use Rattle.smc_daemon.specs.Lines.{lines_among}
use Rattle.smc_driver.proofs.Leading.{plays_all, breaks_off, next_item, lines_next, lines_broken}
use Rattle.smc_driver.proofs.lines.drive.Goals as goal

pub returns-in-Err-clause-breaks_off : goal.returns-in-Err-clause-breaks_off
returns-in-Err-clause-breaks_off g c =
    let d = c.args.daemon.0 in
    let ls = c.args.script.now in
    breaks_off c.in-Err.error c.args.smc.now (lines_among d ls) (g.K.Caller.did c.args.caller.now) (g.K.Caller.did c.play_own.new.caller)
    (lines_broken c.in-Err.error (λ (x : Course). fold driven x (lines_among d ls)) c.args.smc.now c.loop-line.smc (g.K.Caller.did c.args.caller.now) (g.K.Caller.did c.loop-line.caller) (g.K.Caller.did c.play_own.new.caller) d c.loop-line.line-index ls c.line-item.result
    (next_item ls c.loop-line.line-index c.line-item.result c.loop-line-test.true c.line-item.is) c.loop-line.invariant.goes c.in-Err.ensures.err)

pub loop-line-preserved : goal.loop-line-preserved
loop-line-preserved g c =
    let d = c.args.daemon.0 in
    let ls = c.args.script.now in
    record {
      goes = lines_next (λ (x : Course). fold driven x (lines_among d ls)) c.args.smc.now c.loop-line.smc c.play_own.new.smc (g.K.Caller.did c.args.caller.now) (g.K.Caller.did c.loop-line.caller) (g.K.Caller.did c.play_own.new.caller) d c.loop-line.line-index ls c.line-item.result
          (next_item ls c.loop-line.line-index c.line-item.result c.loop-line-test.true c.line-item.is) c.loop-line.invariant.goes c.in_default.ensures.ok;
      idle = c.in_default.ensures.idle;
      falls = omega (arith, c.play_own.ensures.falls, c.loop-line.invariant.falls);
      none_left = λ none. c.play_own.ensures.none_left (omega (arith, none, c.loop-line.invariant.falls)) ∙ c.loop-line.invariant.none_left none;
    }

pub returns-clause-plays : goal.returns-clause-plays
returns-clause-plays g c = plays_all c.args.smc.now c.loop-line.smc (g.K.Caller.did c.args.caller.now) (g.K.Caller.did c.loop-line.caller) c.args.daemon.0 c.loop-line.line-index c.args.script.now c.loop-line-test.false c.loop-line.invariant.goes
