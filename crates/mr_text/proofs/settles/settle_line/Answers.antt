use Rattle.std.proofs.Common.{◌++◌, decimal, ap, ◌∙◌}
use Rattle.mr_text.proofs.SettleLaws.{settle_bytes}
use Rattle.mr_text.proofs.settles.settle_line.Goals as goal

pub returns-clause-line : goal.returns-clause-line
returns-clause-line c = settle_bytes _ _ _ _ _ _ _ _ _ c.in_ok-number.ensures.text c.in_ok-rest.ensures c.in_ok-lane.ensures.text c.in_ok-rest-2.ensures
    (c.in_ok-count.ensures.text ∙ ap (λ x. decimal c.in_ok-count.count ++ x) c.in_ok-rest-3.ensures)
