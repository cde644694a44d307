use Rattle.std.proofs.Common.{rules}
use Rattle.mr_model.specs.Found.{reaches}
use Rattle.mr_plain_lists.proofs.entries.proxy_in.Goals as goal

pub returns : goal.returns
returns c = c.first.ensures (λ r. reaches r c.args.vif) (λ r b k. search rules)
