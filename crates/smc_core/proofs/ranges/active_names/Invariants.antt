use Rattle.std.proofs.Common.{◌≡◌, [], length}
use Rattle.smc_core.specs.Ranges.{names_from}
use Rattle.smc_words.specs.Words.{command_words}
use Rattle.smc_core.proofs.ranges.active_names.Given as goal

abbrev pub invariant-words : goal.invariant-words
invariant-words l =
    names_from l.interfaces l.names.items (command_words l.rest)
    ≡ names_from l.interfaces [] (command_words l.words)

abbrev pub decreases-words : goal.decreases-words
decreases-words l = length (command_words l.rest)
