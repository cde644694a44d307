use Rattle.std.proofs.Common.{◌≡◌, [], length}
use Rattle.mr_words.specs.Words.{words_of}
use Rattle.smc_conf.specs.Lines.{outs_from}
use Rattle.smc_conf.proofs.lines.outs_of.Given as goal

abbrev pub invariant-words : goal.invariant-words
invariant-words l = outs_from l.outs.items (words_of l.rest) ≡ outs_from [] (words_of l.words)

abbrev pub decreases-words : goal.decreases-words
decreases-words l = length (words_of l.rest)
