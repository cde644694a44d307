use Rattle.std.proofs.Common.{◌≡◌, [], ◌∷◌, ◌++◌, subst}
use Rattle.std.specs.Prelude.{IfOk}
use Rattle.mr_model.specs.Deeds.{Asked}
use Rattle.mr_router.specs.Callers.{DaemonValue}
use Rattle.mr_router.specs.Deeds.{deeds}
use Rattle.mr_router.proofs.bound.BoundCaller.call.Goals as goal

pub returns-clause-ok : goal.returns-clause-ok
returns-clause-ok g c = subst (λ (v : DaemonValue). IfOk c.call.result (λ reply. deeds c.call.new.daemon ≡ deeds v ++ Asked c.args.request.now reply ∷ [])) c.self.view_is c.call.ensures.ok
