use Rattle.std.proofs.Common.{sym, ◌∙◌}
use Rattle.mr_lines.proofs.ByteLaws.{number_none, number_read, number_stuck}
use Rattle.mr_lines.proofs.numbers.first_number.Goals as goal

pub returns-in-None-clause-number : goal.returns-in-None-clause-number
returns-in-None-clause-number c = number_none c.args.most c.args.bytes.now c.in-None.ensures.number

pub returns-then-ends-clause-number : goal.returns-then-ends-clause-number
returns-then-ends-clause-number c =
    number_read c.args.most c.in-Some.number c.args.bytes.now c.in-Some.left.now c.in-Some.ensures.number.0 c.in-Some.ensures.number.1 (sym c.ends.ensures ∙ c.if-ends.true)

pub returns-else-ends-clause-number : goal.returns-else-ends-clause-number
returns-else-ends-clause-number c =
    number_stuck c.args.most c.args.bytes.now c.in-Some.left.now c.in-Some.ensures.number.1 (sym c.ends.ensures ∙ c.if-ends.false)
