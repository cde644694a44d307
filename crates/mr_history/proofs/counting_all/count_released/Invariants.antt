use Rattle.std.proofs.Common.{◌++◌, List, take}
use Rattle.mr_model.specs.Counts.{Met}
use Rattle.mr_history.specs.Totals.{AreFew, AreShort, AreTotals, SameKept, released_mets}
use Rattle.mr_history.proofs.counting_all.count_released.Given as goal

abbrev pub invariant-loop-i : goal.invariant-loop-i
invariant-loop-i l = record {
  sums : (ms : List Met) → AreFew
      (ms ++ released_mets l.place (take l.i l.released) (take l.i l.lengths))
      → AreTotals l.initial.totals ms →
      AreTotals l.totals (ms ++ released_mets l.place (take l.i l.released) (take l.i l.lengths));
  short : AreShort (released_mets l.place (take l.i l.released) (take l.i l.lengths));
  same : SameKept l.initial.totals l.totals;
}
