use Rattle.smc_words.proofs.Cuts.{word_first}
use Rattle.smc_words.proofs.words.first_word.Goals as goal

pub returns : goal.returns
returns c =
    rw c.from_index.ensures
    (word_first c.args.bytes.now c.word_end-end.result c.if-end-eq0.false
    c.word_end-end.ensures.bound c.word_end-end.ensures.clean c.word_end-end.ensures.stops)
