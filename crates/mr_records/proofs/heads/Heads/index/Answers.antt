use Rattle.std.proofs.Common.{◌++◌, ap, ◌∙◌}
use Rattle.mr_records.proofs.HeadLemmas.{index_on}
use Rattle.mr_records.proofs.heads.Heads.index.Goals as goal

pub returns : goal.returns
returns c =
    let last = c.args.self.now.hundreds in
    let rest = c.in_ok-rest.rest.now in
    let tens = c.in_ok-tens in
    let ones = c.in_ok-ones in
    index_on last.number tens.tens ones.ones c.args.text.now rest tens.rest.now ones.rest.now last.some last.short tens.ensures.0 ones.ensures.0 (c.in_ok-rest.ensures ∙ ap (λ x. x ++ rest) last.spelled) tens.ensures.1 ones.ensures.1
