-- What `gen` gives: the summary of a run of the scenario that its seed makes.
use Rattle.std.specs.Prelude.{◌≡◌, ◌⊎◌, ℕ, Option, Some, List}
use Rattle.mr_base.specs.Outside.{Files}
use Rattle.mr_command.specs.Commands.{Asked, Gen}
use Rattle.mr_gen.specs.Generated.{generated}
use Rattle.mr_gen.specs.Summary.{summary}
use Rattle.mr_load.specs.Loading.{run_limits}
use Rattle.mr_load.specs.Made.{Made}
use Rattle.mr_load.specs.declared.status.Status.{Status}
use Rattle.mr_load.specs.declared.status.Status.TheVariants as status
use Rattle.mr_model.specs.Legal.{IsLegal}
use Rattle.mr_model.specs.declared.entry.Entry.{Entry}
use Rattle.mr_scenario.specs.declared.scenario.Scenario.{Scenario}

-- The words are `gen SEED LANES PACKETS`: so for these numbers.
abbrev pub IfGen : Option Asked → (ℕ → ℕ → ℕ → Type 0) → Type 0
IfGen (Some (Gen seed lanes packets)) P = P seed lanes packets
IfGen _ P = Unit {0}

-- The history is a legal one of the scenario, and has what that asks; and so much is written of its summary.
pub record SumsOver (files : Files) (s : Scenario) (h : List Entry) (IsWritten : List ℕ → Type 0) : Type 0 where
  pub legal : IsLegal (run_limits files s) h
  pub made : Made files s h
  pub written : IsWritten (summary (run_limits files s) h)

-- One history is so, whatever files there are: a generated scenario names none.
abbrev pub Sums : (seed lanes packets : ℕ) → (List ℕ → Type 0) → Type 0
Sums seed lanes packets IsWritten =
    (h : List Entry) × ((files : Files) → SumsOver files (generated seed lanes packets) h IsWritten)

-- the statuses that `gen` may end with
abbrev pub IsGenEnd : Status → Type 0
IsGenEnd s = (s ≡ status.Good) ⊎ (s ≡ status.SinkFault) ⊎ (s ≡ status.Memory)
