use Rattle.mr_ip.proofs.Heads.{enough}
use Rattle.mr_ip.proofs.reading.accepted_head.Goals as goal

pub head_of-requires-clause-enough : goal.head_of-requires-clause-enough
head_of-requires-clause-enough c = enough c.args.bytes.now c.requires
