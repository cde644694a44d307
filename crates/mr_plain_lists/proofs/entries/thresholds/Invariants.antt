use Rattle.std.proofs.Common.{◌≡◌, ◌++◌, length, take, drop}
use Rattle.mr_model.specs.RouteList.{thresholds_from}
use Rattle.mr_plain_lists.proofs.entries.thresholds.Given as goal

abbrev pub invariant-loop-i : goal.invariant-loop-i
invariant-loop-i l = record {
  size : length l.kept ≡ 32;
  made : take l.i l.kept ++ thresholds_from l.vifs l.i (drop l.i l.asked)
      ≡ thresholds_from l.vifs 0 l.asked;
}
