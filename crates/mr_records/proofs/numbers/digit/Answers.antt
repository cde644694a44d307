use Rattle.std.proofs.Common.{sym, ◌∙◌}
use Rattle.mr_records.proofs.TakingLemmas.{digit_first}
use Rattle.mr_records.proofs.numbers.digit.Goals as goal

pub returns : goal.returns
returns c =
    let is = sym c.is_digit.ensures ∙ c.if-not-is_digit.false in
    digit_first _ c.from.result c.args.text.now c.behind_first.result.now is c.from.ensures c.behind_first.ensures
