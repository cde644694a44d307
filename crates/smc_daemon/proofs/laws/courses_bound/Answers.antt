use Rattle.smc_daemon.proofs.Besides.{bounded_least, bounded_most}
use Rattle.smc_daemon.proofs.Bringing.{polled_brings}
use Rattle.smc_daemon.proofs.laws.courses_bound.Goals as goal

pub returns-clause-least : goal.returns-clause-least
returns-clause-least c = bounded_least

pub returns-clause-most : goal.returns-clause-most
returns-clause-most c = bounded_most

pub returns-clause-polled : goal.returns-clause-polled
returns-clause-polled c = polled_brings
