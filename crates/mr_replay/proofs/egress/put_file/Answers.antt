use Rattle.mr_replay.proofs.Egressing.{put_bad}
use Rattle.mr_replay.proofs.egress.put_file.Goals as goal

pub returns-in-Err-clause-files : goal.returns-in-Err-clause-files
returns-in-Err-clause-files g c = put_bad c.args.name c.args.bytes.now (g.S.Store.told c.args.store.now) (g.S.Store.told c.write.new.self) (rw c.as_str.ensures.value at c.in-Err.ensures.others)
