use Rattle.std.proofs.Common.{◌≡◌, [], length}
use Rattle.std.specs.Prelude.{slice_index_or}
use Rattle.mr_words.specs.Words.{words_of}
use Rattle.mr_scenario.proofs.reading.word_at.Given as goal

abbrev pub invariant-words : goal.invariant-words
invariant-words l = slice_index_or (words_of l.rest) l.left [] ≡ slice_index_or (words_of l.line) l.place []

abbrev pub decreases-words : goal.decreases-words
decreases-words l = length (words_of l.rest)
