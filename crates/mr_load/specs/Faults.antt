-- The facts of a store's calls.
use Rattle.std.specs.Prelude.{◌≡◌, ℕ, Bool, true, false, Result, Ok, Err, List, [], ◌∷◌, ◌++◌}
use Rattle.mr_base.specs.Outside.{LastCall}
use Rattle.mr_base.specs.declared.store_call.StoreCall.{StoreCall}
use Rattle.mr_load.specs.declared.status.Status.{Status}
use Rattle.mr_load.specs.declared.status.Status.TheVariants as status

-- the read of a file, which failed or not
abbrev pub read_of : List ℕ → Bool → StoreCall
read_of file failed = record { is_read = true; name = file; failed = failed }

-- the read of this file that failed
abbrev pub failed_read : List ℕ → LastCall
failed_read file = read_of file true

-- the reads of these files, one after the other, of which the last failed or not
abbrev pub reads_of : List (List ℕ) → Bool → List StoreCall
reads_of [] failed = []
reads_of (name ∷ []) failed = read_of name failed ∷ []
reads_of (name ∷ next ∷ names) failed = read_of name false ∷ reads_of (next ∷ names) failed

-- A store's calls grew by reads of these files, each once and in their order: of all of them, or where the reading was cut short, of
-- the first of them. The last read failed or not.
pub record HasRead (names : List (List ℕ)) (cut failed : Bool) (old new : List StoreCall) : Type 0 where
  pub read : List (List ℕ)
  pub left : List (List ℕ)
  pub order : names ≡ read ++ left
  pub all : cut ≡ false → left ≡ []
  pub calls : new ≡ old ++ reads_of read failed

-- whether a file could not be read
abbrev pub fails : Status → Bool
fails (status.StoreFault name) = true
fails s = false

-- whether the reading was cut short: by a file that could not be read, or by want of memory
abbrev pub cuts : Status → Bool
cuts (status.StoreFault name) = true
cuts status.Memory = true
cuts s = false

-- the same of what was returned
abbrev pub is_fault : {A : Type 0} → Result A Status → Bool
is_fault (Ok x) = false
is_fault (Err s) = fails s

abbrev pub is_cut : {A : Type 0} → Result A Status → Bool
is_cut (Ok x) = false
is_cut (Err s) = cuts s
