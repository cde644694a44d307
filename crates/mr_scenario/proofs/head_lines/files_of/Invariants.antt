use Rattle.std.proofs.Common.{◌≡◌, ◌≤◌, [], length}
use Rattle.mr_scenario.specs.HeadLines.{files_from}
use Rattle.mr_words.specs.Words.{words_of}
use Rattle.mr_scenario.proofs.head_lines.files_of.Given as goal

abbrev pub invariant-words : goal.invariant-words
invariant-words l = record {
  same : files_from l.files.items (words_of l.rest) ≡ files_from [] (words_of l.words);
  few : length l.files.items ≤ 8;
}

abbrev pub decreases-words : goal.decreases-words
decreases-words l = length (words_of l.rest)
