use Rattle.std.proofs.Common.{◌∙◌}
use Rattle.mr_history.proofs.Bearing.{route_found}
use Rattle.mr_history.proofs.journal.Journal.route_totals.Goals as goal

pub returns : goal.returns
returns c = rw (← c.self.view_is)
    (c.get.ensures ∙ route_found c.self.inside.store.entries c.self.inside.totals.routes.items
    c.args.number c.self.invariant.counted.totals.routes)
