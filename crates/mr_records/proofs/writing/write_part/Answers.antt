use Rattle.std.proofs.Common.{◌+◌, ◌-◌, drop, ◌∙◌, arith}
use Rattle.mr_records.proofs.WayLemmas.{cut_off}
use Rattle.mr_records.proofs.writing.write_part.Goals as goal

pub returns : goal.returns
returns c =
    cut_off c.args.out.now.items (drop c.args.from c.args.row.now) (c.args.to - c.args.from) (c.args.from + 56 - c.args.from) _ _ _ (c.len-before.ensures ∙ c.args.out.now.ok.0) c.in_ok-extend_from_slice.ensures.items c.truncate.ensures.items (omega arith)
