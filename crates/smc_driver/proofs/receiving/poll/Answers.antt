use Rattle.std.proofs.Common.{◌≡◌, ◌∙◌, ◌≤◌, Bool, Ok, ap, arith}
use Rattle.smc_core.specs.Driving.{polled}
use Rattle.smc_driver.specs.Leading.{all}
use Rattle.smc_driver.proofs.Leading.{polls_next, polls_broken}
use Rattle.smc_driver.proofs.receiving.poll.Goals as goal

pub polls-preserved : goal.polls-preserved
polls-preserved g c = record {
  goes = polls_next polled polled c.args.most c.polls.left c.args.smc.now c.polls.smc c.receive.new.smc (g.K.Caller.did c.args.caller.now) (g.K.Caller.did c.polls.caller) (g.K.Caller.did c.receive.new.caller) c.polls-test.true c.polls.invariant.goes
      (c.receive.ensures.more (c.in-Ok-true.is ∙ ap (λ (b : Bool). Ok b) c.in-Ok-true.field-0-test));
  idle = c.in-Ok-true.ensures.idle;
  falls = omega (arith, c.receive.ensures.falls, c.polls.invariant.falls);
  none_left = λ none. c.receive.ensures.none_left (omega (arith, none, c.polls.invariant.falls)) ∙ c.polls.invariant.none_left none;
}

pub returns-in-Ok-false-clause-ok : goal.returns-in-Ok-false-clause-ok
returns-in-Ok-false-clause-ok g c =
    polls_next polled (λ n. all) c.args.most c.polls.left c.args.smc.now c.polls.smc c.receive.new.smc (g.K.Caller.did c.args.caller.now) (g.K.Caller.did c.polls.caller) (g.K.Caller.did c.receive.new.caller) c.polls-test.true c.polls.invariant.goes
    (c.receive.ensures.none (c.in-Ok-false.is ∙ ap (λ (b : Bool). Ok b) c.in-Ok-false.field-0-test))

pub returns-in-Err-clause-err : goal.returns-in-Err-clause-err
returns-in-Err-clause-err g c =
    polls_broken c.in-Err.error c.args.most c.polls.left c.args.smc.now c.polls.smc (g.K.Caller.did c.args.caller.now) (g.K.Caller.did c.polls.caller) (g.K.Caller.did c.receive.new.caller) c.polls-test.true c.polls.invariant.goes c.in-Err.ensures.err
