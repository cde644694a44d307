use Rattle.mr_authors.proofs.Owning.{none_of_nobody}
use Rattle.mr_authors.proofs.laws.own_of_nobody.Goals as goal

pub returns : goal.returns
returns c = none_of_nobody
