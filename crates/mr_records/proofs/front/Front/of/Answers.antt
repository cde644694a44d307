use Rattle.std.proofs.Common.{take, ap, ◌∙◌, arith}
use Rattle.std.proofs.lemmas.List.{take-take}
use Rattle.mr_records.proofs.front.Front.of.Goals as goal

pub returns : goal.returns
returns c = ap (take c.args.count) c.in_ok-row.ensures.cases.same ∙ take-take c.args.count 32 c.args.text.now (omega (arith, c.if-count-gt32.false))
