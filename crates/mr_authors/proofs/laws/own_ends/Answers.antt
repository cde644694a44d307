use Rattle.mr_authors.proofs.Owning.{nothing_more}
use Rattle.mr_authors.proofs.laws.own_ends.Goals as goal

pub returns : goal.returns
returns c = nothing_more
