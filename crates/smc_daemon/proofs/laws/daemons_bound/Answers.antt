use Rattle.std.proofs.Common.{refl, arith}
use Rattle.smc_daemon.specs.Machines.{machine_of}
use Rattle.smc_daemon.proofs.Phases.{drives_counts}
use Rattle.smc_daemon.proofs.laws.daemons_bound.Goals as goal

pub returns-clause-least : goal.returns-clause-least
returns-clause-least c = λ files s d names h drives.
    omega (arith, (drives_counts d (machine_of files s names) s.phases h refl drives).lower)

pub returns-clause-most : goal.returns-clause-most
returns-clause-most c = λ files s d names h drives.
    omega (arith, (drives_counts d (machine_of files s names) s.phases h refl drives).upper)
