use Rattle.std.proofs.Common.{sym, ◌∙◌, arith}
use Rattle.mr_lines.proofs.ByteLaws.{first_over, rest_is}
use Rattle.mr_lines.proofs.numbers.leading_number.Goals as goal

pub returns-in-None-clause-number : goal.returns-in-None-clause-number
returns-in-None-clause-number c = first_over c.args.most c.args.bytes.now (sym c.begins_number.ensures ∙ c.if-not-begins_number.false) c.in-None.ensures

pub returns-in-Some-digits-clause-number : goal.returns-in-Some-digits-clause-number
returns-in-Some-digits-clause-number c =
    rest_is c.args.most c.in-Some.first c.in-Some-digits.number c.args.bytes.now c.behind_first.result.now c.in-Some-digits.left.now (sym c.begins_number.ensures ∙ c.if-not-begins_number.false) c.behind_first.ensures (omega (arith, c.in-Some.ensures)) c.in-Some-digits.ensures
