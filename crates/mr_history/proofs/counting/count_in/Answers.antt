use Rattle.mr_history.proofs.Summing.{numbers_set, in_number}
use Rattle.mr_history.specs.Totals.{met_of, vif_at}
use Rattle.mr_history.proofs.counting.count_in.Goals as goal

pub returns-then-vif-lt-VIFS-clause-numbers : goal.returns-then-vif-lt-VIFS-clause-numbers
returns-then-vif-lt-VIFS-clause-numbers c =
    numbers_set c.args.vifs.now c.from-vif.result c.with_in.result
    (rw c.with_in.ensures (in_number (met_of c.args.met.now)
    (vif_at c.args.vifs.now c.from-vif.result)))
