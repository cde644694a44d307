use Rattle.smc_driver.proofs.Leading.{asks_none}
use Rattle.smc_driver.proofs.asking.ask.Goals as goal

pub returns-in-Err-clause-err : goal.returns-in-Err-clause-err
returns-in-Err-clause-err g c = asks_none c.in-Err.error c.args.request.now c.args.smc.now _ _ c.in-Err.ensures.err
