use Rattle.mr_plain.proofs.Keeping.{ends}
use Rattle.mr_plain.proofs.ending.gather.Goals as goal

pub returns : goal.returns
returns c = λ limits h past holds.
    ends limits h c.args.known.now c.args.mets.now past c.args.lines.now c.in_ok-routes.routes.items c.in_ok-vifs.vifs.items c.in_ok-fates.fates.items holds
    c.in_ok-routes.ensures
    (rw c.as_slice.ensures.value at c.in_ok-vifs.ensures)
    c.in_ok-fates.ensures.items
