use Rattle.mr_one_text.proofs.Saying.{says_no_flow}
use Rattle.mr_one_text.proofs.laws.says_no_flow.Goals as goal

pub returns : goal.returns
returns c = says_no_flow
