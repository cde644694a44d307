use Rattle.std.proofs.Common.{◌++◌, decimal, ap, ◌∙◌}
use Rattle.mr_records.proofs.TakingLemmas.{one_digit}
use Rattle.mr_records.proofs.numbers.short_number.Goals as goal

pub returns-then-first-eq0-clause-text : goal.returns-then-first-eq0-clause-text
returns-then-first-eq0-clause-text c =
    let d = c.in_ok-first in
    d.ensures.1 ∙ one_digit d.first d.rest.now d.ensures.0 ∙ ap (λ n. decimal n ++ d.rest.now) c.if-first-eq0.true

pub returns-clause-text : goal.returns-clause-text
returns-clause-text c =
    let d = c.in_ok-first in
    d.ensures.1 ∙ one_digit d.first d.rest.now d.ensures.0 ∙ c.digits.ensures.text
