use Rattle.std.proofs.Common.{take}
use Rattle.mr_load.specs.Items.{contents_in}
use Rattle.mr_load.specs.Passing.{PassesRow}
use Rattle.mr_load.proofs.passing.pass_trace.Given as goal

abbrev pub invariant-loop-i : goal.invariant-loop-i
invariant-loop-i l = PassesRow l.phase l.item (take l.i (contents_in l.trace)) l.initial.passed l.passed
