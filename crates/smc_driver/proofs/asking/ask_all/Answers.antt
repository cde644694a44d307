use Rattle.std.proofs.Common.{◌≡◌, ◌∙◌, ◌≤◌, ◌-◌, ◌+◌, ◌++◌, ℕ, List, drop, subst, arith}
use Rattle.std.proofs.lemmas.Grind.{common_steps}
use Rattle.std.specs.List.{fold}
use Rattle.smc_driver.specs.Leading.{Leads}
use Rattle.smc_core.specs.Driving.{Course, ask, worked_off}
use Rattle.smc_driver.proofs.Leading.{asks_broken, asks_next, asks_unsaid, next_at}
use Rattle.smc_driver.proofs.asking.ask_all.Goals as goal

pub returns-in-Err-clause-err : goal.returns-in-Err-clause-err
returns-in-Err-clause-err g c =
    asks_broken c.in-Err.error (λ (x : Course). worked_off x (record { machine = c.args.smc.now; requests = c.args.requests.now; text = c.args.text.items })) c.args.smc.now c.loop-request.smc (g.K.Caller.did c.args.caller.now) (g.K.Caller.did c.loop-request.caller) (g.K.Caller.did c.ask.new.caller) c.loop-request.text.items c.args.requests.now c.loop-request.request-index _
    (next_at c.args.requests.now c.loop-request.request-index _ c.loop-request-test.true) c.loop-request.invariant.leads c.in-Err.ensures.err

pub returns-then-is_err-clause-err : goal.returns-then-is_err-clause-err
returns-then-is_err-clause-err g c =
    asks_unsaid (λ (x : Course). worked_off x (record { machine = c.args.smc.now; requests = c.args.requests.now; text = c.args.text.items })) c.args.smc.now c.loop-request.smc c.ask.new.smc (g.K.Caller.did c.args.caller.now) (g.K.Caller.did c.loop-request.caller) (g.K.Caller.did c.ask.new.caller) c.loop-request.text.items c.in-Ok.said.items c.args.requests.now c.loop-request.request-index _
    (next_at c.args.requests.now c.loop-request.request-index _ c.loop-request-test.true) c.loop-request.invariant.leads c.in-Ok.ensures.ok

pub loop-request-preserved : goal.loop-request-preserved
loop-request-preserved g c =
    let e : c.loop-request.text.items ++ c.in-Ok.said.items ≡ c.extend_from_slice.new.self.items = grind (arith, common_steps, c.extend_from_slice.ensures.items, c.is_err.ensures.value, c.if-is_err.false, c.as_slice.ensures.value) in
    record {
      leads = subst (λ (t : List ℕ). Leads (λ (x : Course). worked_off x (record { machine = c.args.smc.now; requests = c.args.requests.now; text = c.args.text.items })) (λ (x : Course). fold ask x (drop (c.loop-request.request-index + 1) c.args.requests.now)) c.args.smc.now c.ask.new.smc (g.K.Caller.did c.args.caller.now) (g.K.Caller.did c.ask.new.caller) t) e
          (asks_next (λ (x : Course). worked_off x (record { machine = c.args.smc.now; requests = c.args.requests.now; text = c.args.text.items })) c.args.smc.now c.loop-request.smc c.ask.new.smc (g.K.Caller.did c.args.caller.now) (g.K.Caller.did c.loop-request.caller) (g.K.Caller.did c.ask.new.caller) c.loop-request.text.items c.in-Ok.said.items c.args.requests.now c.loop-request.request-index _
          (next_at c.args.requests.now c.loop-request.request-index _ c.loop-request-test.true) c.loop-request.invariant.leads c.in-Ok.ensures.ok);
      waits = omega (arith, c.in-Ok.ensures.waits, c.loop-request.invariant.waits, c.loop-request-test.true);
      falls = omega (arith, c.ask.ensures.falls, c.loop-request.invariant.falls);
      none_left = λ none. c.ask.ensures.none_left (omega (arith, none, c.loop-request.invariant.falls)) ∙ c.loop-request.invariant.none_left none;
    }
