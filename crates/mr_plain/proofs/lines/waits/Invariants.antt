use Rattle.std.proofs.Common.{◌≡◌, map, drop}
use Rattle.mr_model.specs.WaitingList.{is_waiting}
use Rattle.mr_plain_lists.specs.Knowing.{AreGroups, awaiting}
use Rattle.mr_plain.proofs.lines.waits.Given as goal

abbrev pub invariant-loop-g : goal.invariant-loop-g
invariant-loop-g l = record {
  few : AreGroups (drop l.g-index l.waiting);
  same : is_waiting (map awaiting (drop l.g-index l.waiting)) l.lane l.index ≡ is_waiting (map awaiting l.waiting) l.lane l.index;
}
