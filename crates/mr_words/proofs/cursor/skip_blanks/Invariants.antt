use Rattle.std.proofs.Common.{◌≡◌, length}
use Rattle.mr_words.specs.Words.{words_of}
use Rattle.mr_words.proofs.cursor.skip_blanks.Given as goal

abbrev pub invariant-blanks : goal.invariant-blanks
invariant-blanks l = words_of l.rest ≡ words_of l.bytes

abbrev pub decreases-blanks : goal.decreases-blanks
decreases-blanks l = length l.rest
