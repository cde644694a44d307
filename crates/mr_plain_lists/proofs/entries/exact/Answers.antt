use Rattle.std.proofs.Common.{◌∙◌}
use Rattle.mr_plain_lists.proofs.Asked.{plain_name}
use Rattle.mr_plain_lists.proofs.entries.exact.Goals as goal

pub returns : goal.returns
returns c = c.named.ensures ∙ plain_name c.args.src c.args.dst c.args.routes.now.items
