use Rattle.std.proofs.Common.{◌≡◌, ◌∙◌, ℕ, List, IfOk, subst, sym, arith}
use Rattle.smc_core.specs.Driving.{Course, Command, driven}
use Rattle.smc_driver.specs.Leading.{Goes, all}
use Rattle.smc_driver.proofs.lines.obey_words.Goals as goal

pub returns-clause-ok : goal.returns-clause-ok
returns-clause-ok g c =
    let e : c.as_slice.result.now ≡ c.args.words.now = grind (arith, c.as_slice.ensures.value, c.words.view_is) in
    subst (λ (ws : List ℕ). IfOk c.obey.result (λ done. Goes (λ (x : Course). driven x (Command ws)) all c.args.smc.now c.obey.new.smc (g.K.Caller.did c.args.caller.now) (g.K.Caller.did c.obey.new.caller))) e c.obey.ensures.ok
