-- How functions answer: by a value, by a mistake, or for want of memory.
use Rattle.std.specs.Prelude.{◌≡◌, Result, Ok, Err}
use Rattle.smc_core.specs.Machine.{Machine, Turn}
use Rattle.smc_core.specs.declared.input.Output.{Output}
use Rattle.smc_core.specs.declared.mistake.Mistake.{Mistake}
use Rattle.smc_core.specs.declared.stop.Stop.{Stop}
use Rattle.smc_core.specs.declared.stop.Stop.TheVariants as stop

-- What a function returned, seen by view, is this.
abbrev pub Gives : {A B : Type 0} → (A → B) → Result A Mistake → Result B Mistake → Type 0
Gives view (Ok x) value = value ≡ Ok (view x)
Gives view (Err e) value = value ≡ Err e

-- the same where memory is taken
abbrev pub Makes : {A B : Type 0} → (A → B) → Result A Stop → Result B Mistake → Type 0
Makes view (Ok x) value = value ≡ Ok (view x)
Makes view (Err (stop.Bad e)) value = value ≡ Err e
Makes view (Err stop.Memory) value = Unit {0}

-- what an output says, with the machine behind it
abbrev pub turn_of : Machine → Output → Turn
turn_of m o = record { machine = m; requests = o.requests.items; text = o.text.items }

-- A command takes the machine from old to new so. Mistaken, or without memory, it leaves it as it
-- was.
abbrev pub Steps : Result Output Stop → Machine → Machine → Result Turn Mistake → Type 0
Steps (Ok o) old new value = value ≡ Ok (turn_of new o)
Steps (Err (stop.Bad e)) old new value = (value ≡ Err e) × (new ≡ old)
Steps (Err stop.Memory) old new value = new ≡ old
