use Rattle.std.proofs.Common.{◌≡◌, map, drop}
use Rattle.mr_model.specs.WaitingList.{awaiting_of}
use Rattle.mr_plain_lists.specs.Knowing.{awaiting}
use Rattle.mr_plain_lists.proofs.outcomes.group_of.Given as goal

abbrev pub invariant-loop-g : goal.invariant-loop-g
invariant-loop-g l = awaiting_of (map awaiting (drop l.g-index l.waiting)) l.src l.dst ≡ awaiting_of (map awaiting l.waiting) l.src l.dst
