use Rattle.std.proofs.Common.{arith}
use Rattle.mr_words.proofs.Cuts.{no_word, commented, word_first}
use Rattle.mr_words.proofs.cursor.first_word.Goals as goal
use Rattle.mr_words.proofs.cursor.first_word.Goals.{then-end-eq0-via-then-end-eq0, then-end-eq0-via-else-end-eq0+then-bytes-eq35}

pub returns-then-end-eq0 : goal.returns-then-end-eq0
returns-then-end-eq0 c =
    elim c.then-end-eq0.branch [
      | then-end-eq0-via-then-end-eq0 w ↦ no_word c.args.bytes.now c.word_end-end.result w.if-end-eq0.true c.requires c.word_end-end.ensures.stops
      | then-end-eq0-via-else-end-eq0+then-bytes-eq35 w ↦ commented c.args.bytes.now (omega (arith, c.word_end-end.ensures.bound)) w.if-bytes-eq35.true
    ]

pub returns : goal.returns
returns c =
    rw c.from_index.ensures
    (word_first c.args.bytes.now c.word_end-end.result c.if-end-eq0.false c.word_end-end.ensures.bound c.word_end-end.ensures.clean c.word_end-end.ensures.stops c.if-bytes-eq35.false)
