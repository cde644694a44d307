use Rattle.std.proofs.Common.{◌∙◌, arith}
use Rattle.mr_records.proofs.WayLemmas.{put_front}
use Rattle.mr_records.proofs.writing.put_known.Goals as goal

pub returns : goal.returns
returns c = put_front c.args.row.now c.copy_from_slice.new.self _ (omega arith) (omega arith) ∙ c.copy_from_slice.ensures.after
