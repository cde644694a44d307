use Rattle.mr_load.proofs.LawDues.{dues_sent, dues_of_phase, dues_later, dues_count}
use Rattle.mr_load.proofs.laws.lanes_by_phases.Goals as goal

pub returns-clause-sent : goal.returns-clause-sent
returns-clause-sent c = dues_sent

pub returns-clause-phase : goal.returns-clause-phase
returns-clause-phase c = dues_of_phase

pub returns-clause-later : goal.returns-clause-later
returns-clause-later c = dues_later

pub returns-clause-count : goal.returns-clause-count
returns-clause-count c = dues_count
