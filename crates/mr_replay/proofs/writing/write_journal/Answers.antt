use Rattle.mr_replay.proofs.Lining.{entry_written}
use Rattle.mr_replay.proofs.writing.write_journal.Goals as goal

pub loop-place-preserved : goal.loop-place-preserved
loop-place-preserved c = entry_written _ _ _ c.args.journal.now.entries c.loop-place.place _ c.entry.ensures c.loop-place.invariant (rw c.from-number.ensures at c.in_ok-write_seen.ensures)
