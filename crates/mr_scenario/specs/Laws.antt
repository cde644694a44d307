-- Laws of scenarios.
use Rattle.std.specs.Prelude.{◌≡◌, ℕ, Ok, List}
use Rattle.mr_scenario.specs.declared.scenario.Scenario.{Scenario}
use Rattle.mr_scenario.specs.Fits.{Fits}
use Rattle.mr_scenario.specs.Spelled.{spelled}

-- a scenario that bytes spell fits its own limits
abbrev pub SpelledFits : Type 0
SpelledFits = (bytes : List ℕ) (s : Scenario) → spelled bytes ≡ Ok s → Fits s
