use Rattle.mr_authors.proofs.Owning.{packets_own, last_index_own, last_look_own, phases_own}
use Rattle.mr_authors.proofs.laws.own_tells.Goals as goal

pub returns-clause-packets : goal.returns-clause-packets
returns-clause-packets c = packets_own

pub returns-clause-index : goal.returns-clause-index
returns-clause-index c = last_index_own

pub returns-clause-look : goal.returns-clause-look
returns-clause-look c = last_look_own

pub returns-clause-phases : goal.returns-clause-phases
returns-clause-phases c = phases_own
