use Rattle.mr_scenario.proofs.FitsDraft.{spelled_keeps}
use Rattle.mr_scenario.proofs.laws.spelled_fits.Goals as goal

pub returns : goal.returns
returns c = spelled_keeps
