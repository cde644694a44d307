use Rattle.std.proofs.Common.{◌≡◌, arith}
use Rattle.std.proofs.lemmas.Grind.{common_steps}
use Rattle.mr_kernel.proofs.deciding.wrong_report.Goals as goal

pub returns-then-not-asks_report : goal.returns-then-not-asks_report
returns-then-not-asks_report c limits s st there =
    let asks = c.asks_report.ensures limits s st there in
    grind (arith, common_steps)

pub returns-then-accepts : goal.returns-then-accepts
returns-then-accepts c limits s st there =
    let asks = c.asks_report.ensures limits s st there in
    let accepts = c.accepts.ensures limits s st in
    grind (arith, common_steps)

pub returns-else-accepts : goal.returns-else-accepts
returns-else-accepts c limits s st there =
    let asks = c.asks_report.ensures limits s st there in
    let accepts = c.accepts.ensures limits s st in
    grind (arith, common_steps)
