use Rattle.std.proofs.Common.{◌≤◌, ◌-◌, length, take, drop}
use Rattle.std.specs.List.{AllByRecursion}
use Rattle.mr_load.specs.Dues.{AreDue}
use Rattle.mr_egress.proofs.Indexes.{IsBelow, IsAbove}
use Rattle.mr_egress.proofs.finding.place_of.Given as goal

abbrev pub invariant-search : goal.invariant-search
invariant-search l = record {
  due : AreDue l.lane.packets;
  below : AllByRecursion (IsBelow l.index) (take l.low l.lane.packets);
  above : AllByRecursion (IsAbove l.index) (drop l.high l.lane.packets);
  within : l.high ≤ length l.lane.packets;
  guess : l.low ≤ l.guess;
}

abbrev pub decreases-search : goal.decreases-search
decreases-search l = l.high - l.low
