use Rattle.std.proofs.Common.{◌∙◌, sym}
use Rattle.mr_history.proofs.Bearing.{vif_found}
use Rattle.mr_history.proofs.journal.Journal.vif_totals.Goals as goal

pub returns-in-Some : goal.returns-in-Some
returns-in-Some c =
    rw (← c.self.view_is)
    (vif_found c.self.inside.store.entries c.self.inside.totals.vifs c.args.vif c.in-Some.kept
    (sym c.in-Some.is ∙ c.kept_at.ensures)
    (c.self.invariant.counted.totals.ins c.args.vif)
    (c.self.invariant.counted.totals.outs c.args.vif))
