use Rattle.smc_daemon.proofs.Packets as lemma
use Rattle.smc_daemon.proofs.laws.packets_bring.Goals as goal

pub returns : goal.returns
returns c = lemma.packets_bring
