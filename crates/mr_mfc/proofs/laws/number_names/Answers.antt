use Rattle.mr_mfc.proofs.Falling.{number_there, number_finds, number_changes, number_removes}
use Rattle.mr_mfc.proofs.laws.number_names.Goals as goal

pub returns-clause-there : goal.returns-clause-there
returns-clause-there c = number_there

pub returns-clause-finds : goal.returns-clause-finds
returns-clause-finds c = number_finds

pub returns-clause-changes : goal.returns-clause-changes
returns-clause-changes c = number_changes

pub returns-clause-removes : goal.returns-clause-removes
returns-clause-removes c = number_removes
