use Rattle.std.proofs.Common.{◌≡◌, ◌+◌, length, replicate, false}
use Rattle.std.specs.List.{count_by}
use Rattle.mr_scenario.specs.Forms.{thresholds_from}
use Rattle.mr_words.specs.Words.{words_of}
use Rattle.mr_scenario.proofs.forms.thresholds.Given as goal

-- Each item so far gave a vif, so there were at most 32.
abbrev pub invariant-words : goal.invariant-words
invariant-words l = record {
  same : thresholds_from l.place l.ttls l.seen (words_of l.rest) ≡ thresholds_from 6 (replicate 32 0) (replicate 32 false) (words_of l.words);
  ttls : length l.ttls ≡ 32;
  seen : length l.seen ≡ 32;
  place : l.place ≡ 6 + count_by (λ b. b) l.seen;
}

abbrev pub decreases-words : goal.decreases-words
decreases-words l = length (words_of l.rest)
