-- How functions answer: by a value, or by what is wrong. Memory may run out.
use Rattle.std.specs.Prelude.{◌≡◌, ℕ, Result, Ok, Err, List, take}
use Rattle.smc_conf.specs.declared.conf.Conf.{Conf}
use Rattle.smc_conf.specs.declared.stop.ConfError.{ConfError}
use Rattle.smc_conf.specs.declared.stop.ConfError.TheVariants as error
use Rattle.smc_conf.specs.declared.stop.Kind.{Kind}
use Rattle.smc_conf.specs.declared.stop.Stop.{Stop}
use Rattle.smc_conf.specs.declared.stop.TheConstants.{MOST_TEXT}
use Rattle.smc_conf.specs.declared.stop.Stop.TheVariants as stop

-- What a function returned, seen by view, is this.
abbrev pub Gives : {A B : Type 0} → (A → B) → Result A Kind → Result B Kind → Type 0
Gives view (Ok x) value = value ≡ Ok (view x)
Gives view (Err k) value = value ≡ Err k

-- the same where memory is taken
abbrev pub Reads : {A B : Type 0} → (A → B) → Result A Stop → Result B Kind → Type 0
Reads view (Ok x) value = value ≡ Ok (view x)
Reads view (Err (stop.Bad k)) value = value ≡ Err k
Reads view (Err stop.Memory) value = Unit {0}

-- A line leaves what it changes so.
abbrev pub Steps : {A B : Type 0} → Result A Stop → B → Result B Kind → Type 0
Steps (Ok done) new value = value ≡ Ok new
Steps (Err (stop.Bad k)) new value = value ≡ Err k
Steps (Err stop.Memory) new value = Unit {0}

-- A whole configuration, or the first bad line, what is wrong with it, and how it begins.
abbrev pub Gets : Result Conf ConfError → Result Conf ConfError → Type 0
Gets (Ok conf) value = value ≡ Ok conf
Gets (Err (error.Bad line k text)) value = value ≡ Err (error.Bad line k text)
Gets (Err error.Memory) value = Unit {0}

-- the error that tells of a line
abbrev pub Tells : ConfError → ℕ → Kind → List ℕ → Type 0
Tells (error.Bad n k text) line kind bytes = error.Bad n k text ≡ error.Bad line kind (take MOST_TEXT bytes)
Tells error.Memory line kind bytes = Unit {0}
