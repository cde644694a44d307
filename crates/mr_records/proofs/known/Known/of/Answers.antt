use Rattle.std.proofs.Common.{arith}
use Rattle.mr_records.proofs.WayLemmas.{long_way}
use Rattle.mr_records.proofs.known.Known.of.Goals as goal

pub returns-then-count-gt32 : goal.returns-then-count-gt32
returns-then-count-gt32 c = long_way _ _ c.put_way-at.result c.put_way-at.ensures.text (omega arith) c.if-count-gt32.true
