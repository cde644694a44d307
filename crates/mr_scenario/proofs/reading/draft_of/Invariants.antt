use Rattle.std.proofs.Common.{◌≡◌, length}
use Rattle.mr_scenario.specs.Spelled.{draft_from, empty_draft}
use Rattle.mr_words.specs.Words.{lines_of}
use Rattle.mr_scenario.proofs.FitsDraft.{Keeps}
use Rattle.mr_scenario.proofs.reading.draft_of.Given as goal

-- What is read so far and the lines left come to what all lines do, within the draft's limits.
abbrev pub invariant-lines : goal.invariant-lines
invariant-lines l = record {
  same : draft_from l.line l.draft (lines_of l.rest) ≡ draft_from 1 empty_draft (lines_of l.bytes);
  keeps : Keeps l.draft;
}

abbrev pub decreases-lines : goal.decreases-lines
decreases-lines l = length (lines_of l.rest)
