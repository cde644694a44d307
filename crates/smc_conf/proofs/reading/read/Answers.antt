use Rattle.std.proofs.Common.{rules}
use Rattle.smc_conf.proofs.Keeping.{read_fits}
use Rattle.smc_conf.proofs.reading.read.Goals as goal

pub returns-clause-fits : goal.returns-clause-fits
returns-clause-fits c =
    read_fits c.args.bytes.now c.lines.rest.now c.lines.line c.lines.draft (search rules) c.lines.invariant
