use Rattle.std.proofs.Common.{◌≡◌, ◌+◌, ◌≤◌, length, drop}
use Rattle.mr_plain_lists.specs.Indexed.{oldest_first}
use Rattle.mr_plain_lists.proofs.slots.count_live.Given as goal

abbrev pub invariant-loop-slot : goal.invariant-loop-slot
invariant-loop-slot l = record {
  few : l.count ≤ l.slot-index;
  same : l.count + length (oldest_first (drop l.slot-index l.slots)) ≡ length (oldest_first l.slots);
}
