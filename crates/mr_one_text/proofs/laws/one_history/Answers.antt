use Rattle.mr_model.specs.Ending.{ending}
use Rattle.mr_load.specs.Loading.{run_limits}
use Rattle.mr_tail.specs.Text.{tail_of}
use Rattle.mr_one_text.proofs.Whole.{one_history}
use Rattle.mr_one_text.proofs.laws.one_history.Goals as goal

pub returns-clause-told : goal.returns-clause-told
returns-clause-told c = one_history

pub returns-clause-written : goal.returns-clause-written
returns-clause-written c = λ files s h k fits m n l l' e.
    one_history files s h k
    (tail_of s.devices (ending (run_limits files s) h)) (tail_of s.devices (ending (run_limits files s) k))
    fits m n l l' e
