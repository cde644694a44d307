use Rattle.std.proofs.Common.{◌≡◌, sym, ◌∙◌}
use Rattle.mr_kernel.proofs.Lists.{moment_kept}
use Rattle.mr_kernel.proofs.deciding.last_attempt.Goals as goal

pub returns-in-None : goal.returns-in-None
returns-in-None c limits s st there = let k =
    moment_kept limits s c.args.live.now c.args.route.now.number st there in cc

pub returns-in-Some : goal.returns-in-Some
returns-in-Some c limits s st there = let k =
    moment_kept limits s c.args.live.now c.args.route.now.number st there in cc
