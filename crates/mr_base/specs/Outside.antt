-- What the traits of the outside say of their counts, and of what they took and gave. A `None` stands
-- for an object that does not tell: nothing is said of its content.
use Rattle.std.specs.Prelude.{ℕ, ◌-◌, ◌^◌, ◌<◌, ◌≡◌, ◌≢◌, ◌⊎◌, Bool, true, false, Option, Some, None, List, [], ◌∷◌, ◌++◌, take, Result, Ok, Err, IfSome}
use Rattle.mr_base.specs.declared.read_error.ReadError.{ReadError}
use Rattle.mr_base.specs.declared.read_error.ReadError.TheVariants as read_error
use Rattle.mr_base.specs.declared.store_call.StoreCall.{StoreCall}

-- The count of faults rose in a call: it is greater after it, or stands at its highest value.
abbrev pub Rose : ℕ → ℕ → Type 0
Rose old new = (old < new) ⊎ (new ≡ 2 ^ 64 - 1)

-- What a store keeps of its last call: a read or a write, the name, and whether it failed.
abbrev pub LastCall : Type 0
LastCall = StoreCall

-- what a store keeps before its first call
abbrev pub no_call : LastCall
no_call = record { is_read = true; name = []; failed = false }

-- whether a call answered `Failed`
abbrev pub is_failed : {A E : Type 0} → Result A E → Bool
is_failed (Ok _) = false
is_failed (Err _) = true

-- whether a read answered `Failed`, and not that memory ran out
abbrev pub is_failed_read : {A : Type 0} → Result A ReadError → Bool
is_failed_read (Err read_error.Failed) = true
is_failed_read _ = false

-- the bytes of each file that a store tells of, by name
abbrev pub Files : Type 0
Files = List ℕ → Option (List ℕ)

-- Each file stays as it was.
abbrev pub AllStay : Option Files → Option Files → Type 0
AllStay (Some old) (Some new) = (name : List ℕ) → new name ≡ old name
AllStay None None = Unit {0}
AllStay _ _ = ⊥

-- Each file but the one of this name stays as it was.
abbrev pub OthersStay : List ℕ → Option Files → Option Files → Type 0
OthersStay name (Some old) (Some new) = (other : List ℕ) → other ≢ name → new other ≡ old other
OthersStay _ None None = Unit {0}
OthersStay _ _ _ = ⊥

-- A store that tells has a file of this name with these bytes.
abbrev pub HasFile : Option Files → List ℕ → List ℕ → Type 0
HasFile told name bytes = IfSome told (λ files. files name ≡ Some bytes)

-- These elements were taken after all that were taken before.
abbrev pub Takes : {A : Type 0} → Option (List A) → List A → Option (List A) → Type 0
Takes (Some old) more (Some new) = new ≡ old ++ more
Takes None _ None = Unit {0}
Takes _ _ _ = ⊥

-- The first elements of these were taken, as many as may be, after all that were taken before.
abbrev pub TakesPrefix : {A : Type 0} → Option (List A) → List A → Option (List A) → Type 0
TakesPrefix (Some old) more (Some new) = (n : ℕ) × (new ≡ old ++ take n more)
TakesPrefix None _ None = Unit {0}
TakesPrefix _ _ _ = ⊥

-- These elements were the first of those to come, and the others are still to come.
abbrev pub Gives : {A : Type 0} → Option (List A) → List A → Option (List A) → Type 0
Gives (Some old) first (Some new) = old ≡ first ++ new
Gives None _ None = Unit {0}
Gives _ _ _ = ⊥

-- The link was the first of those to come; there is no link exactly where none was to come.
abbrev pub GivesLink : {A : Type 0} → Option (List A) → Option A → Option (List A) → Type 0
GivesLink (Some old) (Some link) (Some new) = old ≡ link ∷ new
GivesLink (Some old) None (Some new) = (old ≡ []) × (new ≡ [])
GivesLink None _ None = Unit {0}
GivesLink _ _ _ = ⊥

-- whether a door gave a link
abbrev pub gave_link : {A E : Type 0} → Result (Option A) E → Bool
gave_link (Ok (Some _)) = true
gave_link _ = false

-- the numbers that a clock will give after it gave one: the last is given again and again
abbrev pub later_numbers : List ℕ → List ℕ
later_numbers (_ ∷ n ∷ ns) = n ∷ ns
later_numbers ns = ns
