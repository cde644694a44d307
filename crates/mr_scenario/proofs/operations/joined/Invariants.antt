use Rattle.std.proofs.Common.{◌≡◌, length}
use Rattle.mr_scenario.specs.Requests.{joined_from}
use Rattle.mr_words.specs.Words.{words_of}
use Rattle.mr_scenario.proofs.operations.joined.Given as goal

abbrev pub invariant-words : goal.invariant-words
invariant-words l = joined_from l.text.items (words_of l.rest) ≡ joined_from l.first (words_of l.words)

abbrev pub decreases-words : goal.decreases-words
decreases-words l = length (words_of l.rest)
