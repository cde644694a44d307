use Rattle.std.proofs.Common.{ap, ◌∙◌}
use Rattle.std.specs.HashMap.{get}
use Rattle.mr_unres.specs.Slots.{Index, same_key}
use Rattle.mr_unres.proofs.slots.lead.Goals as goal

pub returns-clause-others : goal.returns-clause-others
returns-clause-others c = λ q apart. c.in-Ok.ensures.updates.2 q apart
    ∙ ap (λ (m : Index). get same_key m q) c.get_mut.follows.holds-at-none
