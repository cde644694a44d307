use Rattle.mr_mfc.proofs.Falling.{above_each}
use Rattle.mr_kernel.proofs.ChangesRoutes.{above_absent, above_kept}
use Rattle.mr_kernel.proofs.changing.count_route.Goals as goal

pub born_route-requires-clause-new : goal.born_route-requires-clause-new
born_route-requires-clause-new c =
    rw c.requires.routes (above_absent c.args.number c.args.cache.now.routes c.requires.above)

pub push-requires-clause-above : goal.push-requires-clause-above
push-requires-clause-above c =
    let rs = c.args.cache.now.routes in
    above_kept c.args.number c.args.attempts.now.items rs c.requires.attempts
    (above_each c.args.number rs c.requires.above)
