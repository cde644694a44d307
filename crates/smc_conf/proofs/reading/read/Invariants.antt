use Rattle.std.proofs.Common.{◌≡◌, length}
use Rattle.mr_words.specs.Words.{lines_of}
use Rattle.smc_conf.specs.Spelled.{draft_from, empty_draft}
use Rattle.smc_conf.proofs.reading.read.Given as goal

-- what is read so far and the lines left come to what all lines do
abbrev pub invariant-lines : goal.invariant-lines
invariant-lines l = draft_from l.line l.draft (lines_of l.rest) ≡ draft_from 1 empty_draft (lines_of l.bytes)

abbrev pub decreases-lines : goal.decreases-lines
decreases-lines l = length (lines_of l.rest)
