use Rattle.std.proofs.Common.{[]}
use Rattle.smc_daemon.proofs.Begun.{drives_on, drives_all}
use Rattle.smc_daemon.proofs.laws.phases_driven.Goals as goal

pub returns-clause-on : goal.returns-clause-on
returns-clause-on c = λ d first m ps p h part. drives_on ps d first m p [] h part

pub returns-clause-all : goal.returns-clause-all
returns-clause-all c = λ d first m ps h. drives_all ps d first m [] h
