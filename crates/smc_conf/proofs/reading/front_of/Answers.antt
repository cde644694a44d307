use Rattle.std.proofs.Common.{sym, arith}
use Rattle.std.proofs.lemmas.List.{length-take-le, take_all}
use Rattle.smc_conf.proofs.reading.front_of.Goals as goal

pub slice_bounds-result-end : goal.slice_bounds-result-end
slice_bounds-result-end c =
    sym (length-take-le 4096 c.args.bytes.now (omega (arith, c.if-bytes-gt-MOST_TEXT.true)))

pub returns-else-bytes-gt-MOST_TEXT : goal.returns-else-bytes-gt-MOST_TEXT
returns-else-bytes-gt-MOST_TEXT c =
    sym (take_all 4096 c.args.bytes.now (omega (arith, c.if-bytes-gt-MOST_TEXT.false)))
