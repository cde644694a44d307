use Rattle.std.proofs.Common.{◌≡◌, length}
use Rattle.smc_words.specs.Words.{command_words}
use Rattle.smc_words.proofs.words.skip_blanks.Given as goal

abbrev pub invariant-blanks : goal.invariant-blanks
invariant-blanks l =
    command_words l.rest ≡ command_words l.bytes

abbrev pub decreases-blanks : goal.decreases-blanks
decreases-blanks l = length l.rest
