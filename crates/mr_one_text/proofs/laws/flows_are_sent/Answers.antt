use Rattle.mr_one_text.proofs.Flows.{flows_are_sent}
use Rattle.mr_one_text.proofs.laws.flows_are_sent.Goals as goal

pub returns : goal.returns
returns c = flows_are_sent
