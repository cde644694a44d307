use Rattle.std.proofs.Common.{◌∙◌, ap, is_some}
use Rattle.mr_model.specs.RouteList.{is_named}
use Rattle.mr_plain_lists.proofs.Asked.{any_found}
use Rattle.mr_plain_lists.proofs.entries.has_named.Goals as goal

pub returns : goal.returns
returns c = c.is_some.ensures ∙ ap is_some c.named.ensures ∙ any_found (is_named c.args.src c.args.dst c.args.parent) c.args.routes.now.items
