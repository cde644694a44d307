use Rattle.std.proofs.Common.{◌↔◌, drop}
use Rattle.mr_plain.specs.Following.{IndexesRise}
use Rattle.mr_plain.proofs.following.indexes_rise.Given as goal

abbrev pub invariant-loop-r : goal.invariant-loop-r
invariant-loop-r l = IndexesRise l.last (drop l.r-index l.records) ↔ IndexesRise l.index l.records
