use Rattle.std.proofs.Common.{◌≡◌, arith, sym, ap}
use Rattle.std.proofs.lemmas.Grind.{common_steps}
use Rattle.mr_kernel.proofs.deciding.asks_report.Goals as goal
use Rattle.mr_kernel.proofs.deciding.asks_report.Goals.{then-assert_on+then-pim}
use Rattle.mr_kernel.proofs.deciding.asks_report.Goals.{then-assert_on+else-pim, else-assert_on}

pub returns-then-reaches : goal.returns-then-reaches
returns-then-reaches c limits s st there =
    let last = c.last_attempt.ensures limits s st there in
    let tables = st.tables in
    let moment = st.moment in
    elim c.if-assert_on.branch [
      | then-assert_on+then-pim w ↦ grind (arith, common_steps)
      | then-assert_on+else-pim w ↦ grind (arith, common_steps)
      | else-assert_on w ↦ grind (arith, common_steps)
    ]
