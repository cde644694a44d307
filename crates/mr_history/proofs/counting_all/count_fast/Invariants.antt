use Rattle.std.proofs.Common.{◌++◌, List, map, take}
use Rattle.mr_model.specs.Counts.{Met, met_fast}
use Rattle.mr_history.specs.Totals.{AreFew, AreShort, AreTotals, SameKept}
use Rattle.mr_history.proofs.counting_all.count_fast.Given as goal

abbrev pub invariant-loop-fast : goal.invariant-loop-fast
invariant-loop-fast l = record {
  sums : (ms : List Met) → AreFew (ms ++ map met_fast (take l.fast-index l.records))
      → AreTotals l.initial.totals ms →
      AreTotals l.totals (ms ++ map met_fast (take l.fast-index l.records));
  short : AreShort (map met_fast (take l.fast-index l.records));
  same : SameKept l.initial.totals l.totals;
}
