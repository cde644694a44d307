use Rattle.mr_unres.specs.Entries.{NoneAfter, awaiting}
use Rattle.mr_unres.proofs.tests.gaps_are_closed.Given as goal

abbrev pub invariant-loop-host : goal.invariant-loop-host
invariant-loop-host g l = NoneAfter 0 (awaiting l.waiting.entries)
