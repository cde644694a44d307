use Rattle.std.proofs.Common.{◌≡◌, [], ◌∷◌, ◌++◌, subst}
use Rattle.std.specs.Prelude.{IfOk}
use Rattle.mr_model.specs.Deeds.{Ticked}
use Rattle.mr_router.specs.Callers.{DaemonValue}
use Rattle.mr_router.specs.Deeds.{deeds}
use Rattle.mr_router.proofs.bound.BoundCaller.tick.Goals as goal

pub returns-clause-ok : goal.returns-clause-ok
returns-clause-ok g c = subst (λ (v : DaemonValue). IfOk c.tick.result (λ _. deeds c.tick.new.daemon ≡ deeds v ++ Ticked c.args.ms ∷ [])) c.self.view_is c.tick.ensures.ok
