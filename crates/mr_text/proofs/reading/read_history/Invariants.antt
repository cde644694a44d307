use Rattle.std.proofs.Common.{◌≡◌, length}
use Rattle.mr_text.specs.Walk.{walk, parts_result, walked}
use Rattle.mr_words.specs.Parts.{parts_of}
use Rattle.mr_text.proofs.reading.read_history.Given as goal

-- the lines left come, from what was read, to what the whole text comes to
abbrev pub invariant-lines : goal.invariant-lines
invariant-lines l = parts_result (walk l.line l.state (parts_of 10 l.rest)) ≡ walked l.bytes

abbrev pub decreases-lines : goal.decreases-lines
decreases-lines l = length (parts_of 10 l.rest)
