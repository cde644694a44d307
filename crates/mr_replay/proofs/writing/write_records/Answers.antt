use Rattle.mr_replay.proofs.Lining.{record_written}
use Rattle.mr_replay.proofs.writing.write_records.Goals as goal

pub loop-place-preserved : goal.loop-place-preserved
loop-place-preserved c = record_written _ _ _ c.args.records.now c.loop-place.place _ c.get.ensures c.loop-place.invariant c.in_ok-write_record.ensures
