use Rattle.mr_mfc.proofs.Falling.{above_each, each_above}
use Rattle.mr_mfc.proofs.laws.above_all.Goals as goal

pub returns-clause-each : goal.returns-clause-each
returns-clause-each c = above_each

pub returns-clause-all : goal.returns-clause-all
returns-clause-all c = each_above
