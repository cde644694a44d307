-- What the callers did in a phase, each for itself, joins to a history that has what its scenario asks.
use Rattle.std.specs.Prelude.{◌≡◌, ℕ, ◌+◌, ◌≤◌, false, List, [], ◌∷◌, ◌++◌, length, flat_map}
use Rattle.mr_base.specs.Outside.{Files}
use Rattle.mr_authors.specs.Authors.{own}
use Rattle.mr_load.specs.Callers.{has_machine}
use Rattle.mr_load.specs.Loading.{items_in, run_limits}
use Rattle.mr_load.specs.Made.{MadeFrom, asked, sent, to_ask, to_send}
use Rattle.mr_model.specs.declared.entry.Entry.{Entry}
use Rattle.mr_model.specs.declared.entry.Entry.TheVariants.{EndPhase}
use Rattle.mr_model.specs.Legal.{IsLegal}
use Rattle.mr_scenario.specs.declared.scenario.Phase.{Phase}
use Rattle.mr_scenario.specs.declared.scenario.Scenario.{Scenario}
use Rattle.mr_scenario.specs.Fits.{Fits}
use Rattle.smc_core.specs.Machine.{Machine}
use Rattle.smc_daemon.specs.Courses.{Drives, IsCourse}
use Rattle.smc_daemon.specs.Deeds.{deeds_in}
use Rattle.smc_daemon.specs.Lines.{lines_in}

-- a history has what the first phases of a scenario ask
abbrev pub MadeSoFar : Files → Scenario → List Phase → List Entry → Type 0
MadeSoFar files s ps h = MadeFrom files s [] ps h

-- The entries that each caller of a scenario made, by its number, are its share of a phase behind these; nobody ended a phase.
-- (What a daemon with a routing machine has to do is told by its machine.)
pub record Shares (files : Files) (s : Scenario) (ps : List Phase) (p : Phase) (did : ℕ → List Entry) : Type 0 where
  pub no_end : did 0 ≡ []
  pub lanes : (lane : ℕ) → 1 ≤ lane → lane ≤ s.lanes → sent lane (did lane) ≡ to_send files lane (items_in ps) p
  pub daemons : (d : ℕ) → 1 ≤ d → d ≤ length s.daemons → has_machine s d ≡ false → asked d (did (16 + d)) ≡ to_ask d p

-- Of each caller the history has, behind its former entries, those that it made itself.
abbrev pub Joins : List Entry → List Entry → (ℕ → List Entry) → Type 0
Joins h part did = (n : ℕ) → own n (h ++ part) ≡ own n h ++ did n

abbrev pub PhasesJoin : Type 0
PhasesJoin = (files : Files) (s : Scenario) (ps : List Phase) (p : Phase) (h part : List Entry) (did : ℕ → List Entry)
    → Fits s → IsLegal (run_limits files s) (h ++ part) → MadeSoFar files s ps h
    → Joins h part did → Shares files s ps p did
    → MadeSoFar files s (ps ++ p ∷ []) (h ++ part ++ EndPhase ∷ [])

-- Where a daemon's own entries are what its machine makes of its lines, the daemon drives it in the phase.
abbrev pub DrivesJoin : Type 0
DrivesJoin = (d : ℕ) (m : Machine) (p : Phase) (h part : List Entry) (did : ℕ → List Entry) → Joins h part did
    → IsCourse m (lines_in d p) (flat_map (deeds_in d (h ++ part)) (did (16 + d))) → Drives d m p h part
