use Rattle.smc_core.specs.Driving.{handled}
use Rattle.smc_core.specs.Reports.{report}
use Rattle.smc_daemon.proofs.Extending.{work_extends}
use Rattle.smc_driver.proofs.Leading.{lost}
use Rattle.smc_driver.proofs.receiving.handle.Goals as goal

pub returns-in_default-clause-err : goal.returns-in_default-clause-err
returns-in_default-clause-err g c = lost (λ x. handled x c.args.told) c.args.smc.now _ (λ x. work_extends x (report x.machine c.args.told))
