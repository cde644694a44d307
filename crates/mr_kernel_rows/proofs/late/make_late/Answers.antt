use Rattle.std.proofs.Common.{◌∙◌}
use Rattle.mr_kernel_rows.proofs.late.make_late.Goals as goal

pub settle_late-requires-clause-limits : goal.settle_late-requires-clause-limits
settle_late-requires-clause-limits c = c.make_calls.ensures.limits ∙ c.requires.limits
