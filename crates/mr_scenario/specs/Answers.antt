-- How functions answer: by a value, or by what is wrong. Memory may run out.
use Rattle.std.specs.Prelude.{◌≡◌, Result, Ok, Err}
use Rattle.mr_scenario.specs.declared.stop.Mistake.{Mistake}
use Rattle.mr_scenario.specs.declared.stop.ScenarioError.{ScenarioError}
use Rattle.mr_scenario.specs.declared.stop.ScenarioError.TheVariants as error
use Rattle.mr_scenario.specs.declared.stop.Stop.{Stop}
use Rattle.mr_scenario.specs.declared.stop.Stop.TheVariants as stop

-- What a function returned, seen by view, is this.
abbrev pub Reads : {A B : Type 0} → (A → B) → Result A Stop → Result B Mistake → Type 0
Reads view (Ok x) value = value ≡ Ok (view x)
Reads view (Err (stop.Bad m)) value = value ≡ Err m
Reads view (Err stop.Memory) value = Unit {0}

-- A line leaves what it changes so.
abbrev pub Steps : {A B : Type 0} → Result A Stop → B → Result B Mistake → Type 0
Steps (Ok done) new value = value ≡ Ok new
Steps (Err (stop.Bad m)) new value = value ≡ Err m
Steps (Err stop.Memory) new value = Unit {0}

-- the same for a whole scenario
abbrev pub Gives : {A B : Type 0} → (A → B) → Result A ScenarioError → Result B ScenarioError → Type 0
Gives view (Ok x) value = value ≡ Ok (view x)
Gives view (Err (error.Bad line k text)) value = value ≡ Err (error.Bad line k text)
Gives view (Err error.Memory) value = Unit {0}
