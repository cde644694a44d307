use Rattle.mr_load.proofs.LawLimits.{limits_within, limits_of_scenario}
use Rattle.mr_load.proofs.laws.limits_within.Goals as goal

pub returns-clause-within : goal.returns-clause-within
returns-clause-within c = limits_within

pub returns-clause-scenario : goal.returns-clause-scenario
returns-clause-scenario c = limits_of_scenario
