use Rattle.std.proofs.Common.{◌≤◌, length, drop}
use Rattle.mr_plain_lists.specs.Indexed.{NoneOf}
use Rattle.mr_plain_lists.proofs.slots.place_of.Given as goal

abbrev pub invariant-loop-reach : goal.invariant-loop-reach
invariant-loop-reach l = record {
  within : l.reach ≤ length l.slots;
  none : NoneOf l.number (drop l.reach l.slots);
}

abbrev pub decreases-loop-reach : goal.decreases-loop-reach
decreases-loop-reach l = l.reach
