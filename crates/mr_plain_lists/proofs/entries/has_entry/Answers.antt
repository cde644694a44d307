use Rattle.std.proofs.Common.{◌∙◌, ap, is_some}
use Rattle.mr_model.specs.RouteList.{is_entry}
use Rattle.mr_plain_lists.proofs.Asked.{any_found}
use Rattle.mr_plain_lists.proofs.entries.has_entry.Goals as goal

pub returns : goal.returns
returns c = c.is_some.ensures ∙ ap is_some c.exact.ensures ∙ any_found (is_entry c.args.src c.args.dst) c.args.routes.now.items
