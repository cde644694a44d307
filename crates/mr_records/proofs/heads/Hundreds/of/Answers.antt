use Rattle.std.proofs.Common.{◌∙◌, arith}
use Rattle.mr_records.specs.Ways.{index_bytes}
use Rattle.mr_records.proofs.HeadLemmas.{front_length, hundreds_front}
use Rattle.mr_records.proofs.heads.Hundreds.of.Goals as goal

pub invariant_of-result-clause-spelled : goal.invariant_of-result-clause-spelled
invariant_of-result-clause-spelled c =
    let text = c.args.text.now in
    let long = front_length text (index_bytes c.args.index) c.args.behind.now c.requires in
    c.in_ok-front.ensures ∙ hundreds_front c.args.index text c.args.behind.now _ (omega (arith, c.if-number-eq0.false)) (omega (arith, c.if-number-ge10000000.false)) c.requires (omega (arith, long))
