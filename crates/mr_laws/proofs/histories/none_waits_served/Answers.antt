use Rattle.mr_laws.proofs.Serving as lemma
use Rattle.mr_laws.proofs.histories.none_waits_served.Goals as goal

pub returns : goal.returns
returns c = lemma.none_waits_served
