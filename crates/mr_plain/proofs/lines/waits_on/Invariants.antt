use Rattle.std.proofs.Common.{◌≡◌, map, drop}
use Rattle.mr_model.specs.WaitingList.{is_waiting, unexpired}
use Rattle.mr_plain_lists.specs.Knowing.{AreGroups, awaiting}
use Rattle.mr_plain.proofs.lines.waits_on.Given as goal

abbrev pub invariant-loop-g : goal.invariant-loop-g
invariant-loop-g l = record {
  few : AreGroups (drop l.g-index l.waiting);
  same : is_waiting (unexpired l.moment (map awaiting (drop l.g-index l.waiting))) l.lane l.index ≡ is_waiting (unexpired l.moment (map awaiting l.waiting)) l.lane l.index;
}
