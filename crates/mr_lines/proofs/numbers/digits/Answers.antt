use Rattle.std.proofs.Common.{sym, ◌∙◌}
use Rattle.mr_lines.proofs.ByteLaws.{grown_above}
use Rattle.mr_lines.proofs.numbers.digits.Goals as goal

pub returns-in-None : goal.returns-in-None
returns-in-None c =
    grown_above c.args.most c.digits.value _ c.digits.left.now c.in-len1-up.len_at_least (sym c.is_digit.ensures ∙ c.if-not-is_digit.false) c.in-None.ensures c.digits.invariant.value
