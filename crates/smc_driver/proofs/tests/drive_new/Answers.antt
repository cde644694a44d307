use Rattle.std.proofs.Common.{arith}
use Rattle.smc_driver.proofs.tests.drive_new.Goals as goal

pub drive-requires : goal.drive-requires
drive-requires g c = record { idle = omega (arith, c.pending.ensures, c.if-pending-gt0.false) }
