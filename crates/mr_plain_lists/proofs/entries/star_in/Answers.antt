use Rattle.std.proofs.Common.{rules}
use Rattle.mr_model.specs.Found.{serves}
use Rattle.mr_plain_lists.proofs.entries.star_in.Goals as goal

pub returns : goal.returns
returns c = c.first.ensures (λ r. serves c.args.routes.now.items r c.args.vif) (λ r b k. search rules)
