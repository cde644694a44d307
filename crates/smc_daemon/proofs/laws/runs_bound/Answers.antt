use Rattle.smc_daemon.proofs.Runs as lemma
use Rattle.smc_daemon.proofs.Sending as sending
use Rattle.smc_daemon.proofs.laws.runs_bound.Goals as goal

pub returns-clause-room : goal.returns-clause-room
returns-clause-room c = lemma.room_of_legal

pub returns-clause-least : goal.returns-clause-least
returns-clause-least c = lemma.least_of_runs

pub returns-clause-most : goal.returns-clause-most
returns-clause-most c = lemma.most_of_runs

pub returns-clause-plain : goal.returns-clause-plain
returns-clause-plain c = lemma.most_without

pub returns-clause-packets : goal.returns-clause-packets
returns-clause-packets c = sending.packets_of_legal
