use Rattle.std.proofs.Common.{rules}
use Rattle.mr_model.specs.RouteList.{has_parent}
use Rattle.mr_plain_lists.proofs.entries.named.Goals as goal

pub returns : goal.returns
returns c = c.first.ensures (has_parent c.args.parent) (λ r b k. search rules)
