-- Laws of what is judged: where no rule fails, the text is that of a legal history that has what the scenario asks.
use Rattle.std.specs.Prelude.{◌≡◌, ℕ, Ok, List, map}
use Rattle.mr_base.specs.Outside.{Files}
use Rattle.mr_load.specs.Loading.{run_limits, skips_of}
use Rattle.mr_load.specs.Loads.{IsLoaded}
use Rattle.mr_load.specs.Made.{Made}
use Rattle.mr_load.specs.declared.loading.Loaded.{Loaded}
use Rattle.mr_model.specs.Ending.{ending}
use Rattle.mr_model.specs.Legal.{IsLegal}
use Rattle.mr_model.specs.declared.entry.Entry.{Entry}
use Rattle.mr_scenario.specs.declared.scenario.Scenario.{Scenario}
use Rattle.mr_lines.specs.declared.tail.Tail.{Tail}
use Rattle.mr_tail.specs.Text.{history_text, tail_of}
use Rattle.mr_text.specs.Walk.{walked}
use Rattle.mr_text.specs.Whole.{PartsFit}
use Rattle.mr_text.specs.declared.history_text.HistoryText.{HistoryText}
use Rattle.mr_check.specs.Callers.{bare}
use Rattle.mr_check.specs.Judging.{LineRight, told}

-- A legal history that has what the scenario asks.
pub record IsRun (files : Files) (s : Scenario) (h : List Entry) : Type 0 where
  pub legal : IsLegal (run_limits files s) h
  pub made : Made files s h

-- Where no rule fails, the text is that of the history that it tells, which is legal and has what the scenario asks.
abbrev pub RightIsRun : Type 0
RightIsRun = (files : Files) (l : Loaded) (bytes : List ℕ) (p : HistoryText) → IsLoaded files l → walked bytes ≡ Ok p
    → ((n : ℕ) → LineRight l p n) → IsRun files l.scenario (told l p) × (bytes ≡ history_text files l.scenario (told l p))

-- what a history of a scenario ends with, as lines
abbrev pub run_tail : Files → Scenario → List Entry → Tail
run_tail files s h = tail_of s.devices (ending (run_limits files s) h)

-- Of a legal history that has what the scenario asks, and whose text is in the grammar, the text is read, and no rule fails.
abbrev pub RunIsRight : Type 0
RunIsRight = (files : Files) (l : Loaded) (h : List Entry) → IsLoaded files l → IsRun files l.scenario h
    → PartsFit (skips_of files l.scenario) (map bare h) (run_tail files l.scenario h)
    → (p : HistoryText) × (walked (history_text files l.scenario h) ≡ Ok p) × ((n : ℕ) → LineRight l p n)
