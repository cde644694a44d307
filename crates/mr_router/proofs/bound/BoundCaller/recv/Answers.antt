use Rattle.std.proofs.Common.{◌≡◌, [], ◌∷◌, ◌++◌, subst}
use Rattle.std.specs.Prelude.{IfOk}
use Rattle.mr_model.specs.Deeds.{Received}
use Rattle.mr_router.specs.Callers.{DaemonValue}
use Rattle.mr_router.specs.Deeds.{deeds}
use Rattle.mr_router.proofs.bound.BoundCaller.recv.Goals as goal

pub returns-clause-ok : goal.returns-clause-ok
returns-clause-ok g c = subst (λ (v : DaemonValue). IfOk c.recv.result (λ told. deeds c.recv.new.daemon ≡ deeds v ++ Received told ∷ [])) c.self.view_is c.recv.ensures.ok
