use Rattle.std.proofs.Common.{ℕ, List, Bor}
use Rattle.mr_lines.specs.declared.line.Line.TheVariants as said
use Rattle.mr_text.proofs.SettleLaws.{line_taken, line_refused}
use Rattle.mr_text.proofs.settles.take_settle.Goals as goal

pub returns-in-Err : goal.returns-in-Err
returns-in-Err c =
    let i = c.in-Some in
    line_refused (λ (r : Bor (List ℕ)). r.now) c.args.line.now c.args.line.now c.args.state.now c.settle.new.state c.settle.new.state (said.Settle i.number i.lane i.count) c.args.text.now i.rest.now c.in-Err.error
    i.ensures.fits i.ensures.line c.in-Err.ensures

pub returns-in-Ok : goal.returns-in-Ok
returns-in-Ok c =
    let i = c.in-Some in
    line_taken c.args.line.now c.saturating_add.result c.args.state.now c.settle.new.state (said.Settle i.number i.lane i.count) c.args.text.now i.rest.now i.ensures.fits i.ensures.line
    c.saturating_add.ensures c.in-Ok.ensures
