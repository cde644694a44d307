use Rattle.mr_authors.proofs.Owning.{own_append, own_made}
use Rattle.mr_authors.proofs.laws.own_grows.Goals as goal

pub returns-clause-append : goal.returns-clause-append
returns-clause-append c = own_append

pub returns-clause-push : goal.returns-clause-push
returns-clause-push c = own_made
