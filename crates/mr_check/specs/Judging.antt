-- Which lines of a history's text are right. The lines are numbered from 1: the first line, the skips, the entries, the tail.
use Rattle.std.specs.Prelude.{◌≡◌, ℕ, ◌+◌, ◌<◌, ◌≤◌, Ok, Err, List, [], ◌∷◌, ◌++◌, length, map, slice_get, sum_by}
use Rattle.mr_lines.specs.declared.line.Line.{Line}
use Rattle.mr_load.specs.declared.loading.Loaded.{Loaded}
use Rattle.mr_model.specs.Ending.{ending}
use Rattle.mr_model.specs.Past.{phases}
use Rattle.mr_model.specs.declared.entry.Entry.{Entry}
use Rattle.mr_tail.specs.Text.{tail_of}
use Rattle.mr_text.specs.Text.{tail_lines}
use Rattle.mr_text.specs.Walk.{walked}
use Rattle.mr_text.specs.Whole.{capped, line_count}
use Rattle.mr_text.specs.declared.history_text.HistoryText.{HistoryText}
use Rattle.mr_check.specs.Callers.{flowing}
use Rattle.mr_check.specs.Rules.{FirstLine, FurtherLine}
use Rattle.mr_check.specs.declared.judgement.Judgement.{Judgement}
use Rattle.mr_check.specs.declared.judgement.Judgement.TheVariants as judgement

-- The skips are the scenario's: each skip line is that of the scenario, and behind the last none is missing.
abbrev pub SkipsRight : Loaded → HistoryText → ℕ → Type 0
SkipsRight l p n = (k : ℕ) → k ≤ length p.skips → n ≡ 2 + k → slice_get p.skips k ≡ slice_get l.skips k

-- Of an entry behind the history g, whose lines begin with line `first`, line n is right.
pub record EntryRight (l : Loaded) (g : List Entry) (first : ℕ) (e : Entry) (n : ℕ) : Type 0 where
  pub first_line : n ≡ first → FirstLine l g e
  pub further : (i : ℕ) → i + 1 < line_count e → n ≡ first + 1 + i → FurtherLine l g e i

-- the same of entries one behind another
abbrev pub EntriesRight : Loaded → List Entry → ℕ → List Entry → ℕ → Type 0
EntriesRight l g first [] n = Unit {0}
EntriesRight l g first (e ∷ h) n = EntryRight l g first e n × EntriesRight l (g ++ e ∷ []) (first + line_count e) h n

-- Every phase of the scenario has ended at the first line of the tail.
abbrev pub PhasesRight : Loaded → List Entry → ℕ → ℕ → Type 0
PhasesRight l h first n = n ≡ first → phases h ≡ length l.scenario.phases

-- The tail is the history's: each line is that of the history, and behind the last none is missing.
abbrev pub TailRight : Loaded → List Entry → List Line → ℕ → ℕ → Type 0
TailRight l h lines first n = (k : ℕ) → k ≤ length lines → n ≡ first + k →
    slice_get lines k ≡ slice_get (tail_lines (tail_of l.scenario.devices (ending l.limits h))) k

-- the history that a text tells, with the flows of the scenario's packets
abbrev pub told : Loaded → HistoryText → List Entry
told l p = map (flowing l) p.entries

-- the first line behind the skips, and the first behind the entries
abbrev pub entries_from : HistoryText → ℕ
entries_from p = 2 + length p.skips

abbrev pub tail_from : HistoryText → ℕ
tail_from p = entries_from p + sum_by line_count p.entries

-- No rule fails at line n.
pub record LineRight (l : Loaded) (p : HistoryText) (n : ℕ) : Type 0 where
  pub skips : SkipsRight l p n
  pub entries : EntriesRight l [] (entries_from p) (told l p) n
  pub phases : PhasesRight l (told l p) (tail_from p) n
  pub tail : TailRight l (told l p) (tail_lines p.tail) (tail_from p) n

-- Line n is the first at which a rule fails.
pub record IsFirstWrong (l : Loaded) (p : HistoryText) (n : ℕ) : Type 0 where
  pub wrong : LineRight l p n → ⊥
  pub before : (m : ℕ) → m < n → LineRight l p m

-- What is answered for the bytes of a text: no rule fails at any line; or the first line outside the grammar; or the first line at
-- which a rule fails.
abbrev pub IsJudged : Loaded → List ℕ → Judgement → Type 0
IsJudged l bytes judgement.Legal = (p : HistoryText) × (walked bytes ≡ Ok p) × ((n : ℕ) → LineRight l p n)
IsJudged l bytes (judgement.HistoryText line) = walked bytes ≡ Err line
IsJudged l bytes (judgement.Illegal line) =
    (p : HistoryText) × (n : ℕ) × (walked bytes ≡ Ok p) × (line ≡ capped n) × IsFirstWrong l p n
