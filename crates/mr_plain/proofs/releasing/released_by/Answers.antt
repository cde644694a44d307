use Rattle.mr_model.specs.declared.request.Request.TheVariants.{AddMfc, AddProxy}
use Rattle.mr_model.specs.State.{granted}
use Rattle.mr_plain_lists.specs.Knowing.{state_of}
use Rattle.mr_plain.proofs.Granting.{granted_mfc, granted_proxy}
use Rattle.mr_plain.proofs.releasing.released_by.Goals as goal

pub returns-in-AddMfc : goal.returns-in-AddMfc
returns-in-AddMfc c = λ limits.
    rw c.in-AddMfc.is (c.released_of.ensures (granted limits (state_of c.args.known.now) c.args.daemon (AddMfc c.in-AddMfc.ctl)) (granted_mfc limits c.args.known.now c.args.daemon c.in-AddMfc.ctl))

pub returns-in-AddProxy : goal.returns-in-AddProxy
returns-in-AddProxy c = λ limits.
    rw c.in-AddProxy.is (c.released_of-in-AddProxy.ensures (granted limits (state_of c.args.known.now) c.args.daemon (AddProxy c.in-AddProxy.ctl)) (granted_proxy limits c.args.known.now c.args.daemon c.in-AddProxy.ctl))
