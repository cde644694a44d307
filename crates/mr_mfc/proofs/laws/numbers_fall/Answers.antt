use Rattle.mr_mfc.proofs.Falling.{change_falls, remove_falls, flush_falls}
use Rattle.mr_mfc.proofs.laws.numbers_fall.Goals as goal

pub returns-clause-change : goal.returns-clause-change
returns-clause-change c = change_falls

pub returns-clause-remove : goal.returns-clause-remove
returns-clause-remove c = remove_falls

pub returns-clause-flush : goal.returns-clause-flush
returns-clause-flush c = flush_falls
