use Rattle.std.proofs.Common.{◌≡◌, Option, List, [], ◌∷◌, ◌++◌, Some, subst}
use Rattle.mr_model.specs.Deeds.{Received}
use Rattle.mr_model.specs.declared.message.Told.{Told}
use Rattle.smc_driver.proofs.Leading.{receives_more, receives_broken}
use Rattle.smc_driver.proofs.receiving.receive.Goals as goal

pub returns-in-Ok-clause-more : goal.returns-in-Ok-clause-more
returns-in-Ok-clause-more g c = λ same n.
    receives_more n c.in-Ok-Some.told c.args.smc.now c.handle.new.smc (g.K.Caller.did c.args.caller.now) (g.K.Caller.did c.recv.new.self) (g.K.Caller.did c.handle.new.caller)
    (subst (λ (o : Option Told). g.K.Caller.did c.recv.new.self ≡ g.K.Caller.did c.args.caller.now ++ Received o ∷ []) c.in-Ok-Some.field-0-is c.in-Ok-Some.ensures.ok)
    c.in-Ok.ensures.ok

pub returns-in-Err-handle-clause-err : goal.returns-in-Err-handle-clause-err
returns-in-Err-handle-clause-err g c = λ n.
    receives_broken c.in-Err-handle.error n c.in-Ok-Some.told c.args.smc.now (g.K.Caller.did c.args.caller.now) (g.K.Caller.did c.recv.new.self) (g.K.Caller.did c.handle.new.caller)
    (subst (λ (o : Option Told). g.K.Caller.did c.recv.new.self ≡ g.K.Caller.did c.args.caller.now ++ Received o ∷ []) c.in-Ok-Some.field-0-is c.in-Ok-Some.ensures.ok)
    c.in-Err-handle.ensures.err
