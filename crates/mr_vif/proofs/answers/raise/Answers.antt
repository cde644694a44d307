use Rattle.std.proofs.Common.{arith}
use Rattle.mr_vif.proofs.VifLemmas.{on_set, on_unset}
use Rattle.mr_vif.proofs.answers.raise.Goals as goal

pub returns-then-dev-lt-DEVICES : goal.returns-then-dev-lt-DEVICES
returns-then-dev-lt-DEVICES c = λ vifs are. rw c.higher.ensures (on_set c.args.highest.now vifs c.args.vif.now (omega arith) (omega arith) are)

pub returns-else-dev-lt-DEVICES : goal.returns-else-dev-lt-DEVICES
returns-else-dev-lt-DEVICES c = λ vifs are. on_unset c.args.highest.now vifs c.args.vif.now (omega arith) are
