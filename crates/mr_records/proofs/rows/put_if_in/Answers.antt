use Rattle.std.proofs.Common.{arith}
use Rattle.std.proofs.lemmas.Fmt.{length-decimal-le}
use Rattle.mr_records.proofs.rows.put_if_in.Goals as goal

pub returns-then-outs-vif-eq1-clause-within : goal.returns-then-outs-vif-eq1-clause-within
returns-then-outs-vif-eq1-clause-within c =
    let small = length-decimal-le 2 c.args.vif (omega arith) (omega arith) (omega arith) in
    (omega (arith, c.put_part.ensures.start), omega (arith, c.put_part.ensures.start, small))
