use Rattle.std.proofs.Common.{◌≡◌, length}
use Rattle.mr_scenario.specs.PhaseLines.{is_smc_at}
use Rattle.mr_scenario.proofs.phase_lines.is_smc_at.Given as goal

abbrev pub invariant-daemons : goal.invariant-daemons
invariant-daemons l = is_smc_at l.rest l.left ≡ is_smc_at l.daemons l.number

abbrev pub decreases-daemons : goal.decreases-daemons
decreases-daemons l = length l.rest
