use Rattle.std.proofs.Common.{not}
use Rattle.mr_tables.proofs.Fitted.{granted_fits}
use Rattle.mr_tables.proofs.tables.Tables.would.Goals as goal

pub returns-in-Ok-clause-fits : goal.returns-in-Ok-clause-fits
returns-in-Ok-clause-fits c =
    granted_fits c.args.self.now c.args.request.now (not c.args.owner)
    (record { number = c.args.number; what = c.in-Ok.what })
    c.in-Ok.ensures.granted c.requires.above c.in-Ok.ensures.what
