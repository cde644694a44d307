use Rattle.mr_unres.specs.Entries.{NoneAfter, awaiting}
use Rattle.mr_unres.proofs.tests.four_packets_and_no_fifth.Given as goal

abbrev pub invariant-loop-index : goal.invariant-loop-index
invariant-loop-index g l = NoneAfter 0 (awaiting l.waiting.entries)
