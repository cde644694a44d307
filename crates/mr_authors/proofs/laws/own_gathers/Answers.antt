use Rattle.mr_authors.proofs.Owning.{flat_own}
use Rattle.mr_authors.proofs.laws.own_gathers.Goals as goal

pub returns : goal.returns
returns g c = flat_own
