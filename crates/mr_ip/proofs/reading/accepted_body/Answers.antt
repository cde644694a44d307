use Rattle.mr_ip.proofs.Heads.{enough, total_within}
use Rattle.mr_ip.proofs.reading.accepted_body.Goals as goal

pub body_in-requires-clause-enough : goal.body_in-requires-clause-enough
body_in-requires-clause-enough c = enough c.args.bytes.now c.requires

pub body_in-requires-clause-head : goal.body_in-requires-clause-head
body_in-requires-clause-head c = (total_within c.args.bytes.now c.requires).0

pub body_in-requires-clause-total : goal.body_in-requires-clause-total
body_in-requires-clause-total c = (total_within c.args.bytes.now c.requires).1
