-- How the entries are kept: at places in the order of their making, with gaps where entries were
-- taken out, and an index from their sources and groups to their places.
use Rattle.std.specs.Prelude.{◌≡◌, ℕ, ◌+◌, ◌<◌, ◌≤◌, ◌&&◌, nat_eq, Bool, true, false, Option, Some, None, List, [], ◌∷◌, ◌++◌, length, slice_get, option_and_then}
use Rattle.std.specs.List.{AllByRecursion}
use Rattle.std.specs.HashMap.{HashMap, get, hash_map_len, spare}
use Rattle.std.specs.declared.hash.FoldHasher.{FoldHasher}
use Rattle.std.specs.declared.hash.BuildHasherDefault.{BuildHasherDefault}
use Rattle.mr_unres.specs.declared.unresolved.Unresolved.{Unresolved}

-- the places, and how many there may be
pub record SlotList : Type 0 where
  pub items : List (Option Unresolved)
  pub capacity : ℕ

-- what stands at the places, without the gaps
abbrev pub somes : List (Option Unresolved) → List Unresolved
somes [] = []
somes (None ∷ slots) = somes slots
somes (Some e ∷ slots) = e ∷ somes slots

abbrev pub Index : Type 0
Index = HashMap (ℕ × ℕ) ℕ (BuildHasherDefault FoldHasher)

abbrev pub key_of : Unresolved → ℕ × ℕ
key_of e = (e.src.0, e.dst.0)

abbrev pub same_key : ℕ × ℕ → ℕ × ℕ → Bool
same_key a b = nat_eq a.0 b.0 && nat_eq a.1 b.1

-- The index leads from each entry to its place. It may also lead from a key whose entry is gone to
-- any place.
abbrev pub Leads : ℕ → List (Option Unresolved) → Index → Type 0
Leads n slots index =
    (i : ℕ) (e : Unresolved) → i < n → slice_get slots i ≡ Some (Some e)
    → get same_key index (key_of e) ≡ Some i

-- no two entries have one key
abbrev pub AreApart : List (Option Unresolved) → Type 0
AreApart slots =
    (i j : ℕ) (e f : Unresolved) → slice_get slots i ≡ Some (Some e)
    → slice_get slots j ≡ Some (Some f)
    → same_key (key_of e) (key_of f) ≡ true → i ≡ j

pub record IsIndexed (slots : List (Option Unresolved)) (index : Index) (room capacity : ℕ) : Type 0 where
  pub leads : Leads (length slots) slots index
  pub within : length slots ≤ capacity
  pub has_room : capacity ≤ room
  -- no key is ever taken out, so that emptying the index gives back all of its room
  pub whole : capacity ≤ hash_map_len index + spare index
  pub has_spare : capacity ≤ length slots + spare index

-- the entry at a place, if there is one
abbrev pub entry_in : List (Option Unresolved) → ℕ → Option Unresolved
entry_in slots i = option_and_then (λ o. o) (slice_get slots i)

-- no entry of the list passes
abbrev pub AllFail : (Unresolved → Bool) → List Unresolved → Type 0
AllFail p es = AllByRecursion (λ e. p e ≡ false) es

-- one entry passes, and stands at place i
pub record StandsAt (p : Unresolved → Bool) (slots : List (Option Unresolved)) (i : ℕ) : Type 0 where
  pub before : List (Option Unresolved)
  pub entry : Unresolved
  pub after : List (Option Unresolved)
  pub whole : slots ≡ before ++ Some entry ∷ after
  pub place : length before ≡ i
  pub passes : p entry ≡ true
  pub none_before : AllFail p (somes before)
  pub none_after : AllFail p (somes after)

-- the first entry stands at place i
pub record StandsFirst (slots : List (Option Unresolved)) (i : ℕ) : Type 0 where
  pub before : List (Option Unresolved)
  pub entry : Unresolved
  pub after : List (Option Unresolved)
  pub whole : slots ≡ before ++ Some entry ∷ after
  pub place : length before ≡ i
  pub gaps : somes before ≡ []

-- the slots once an entry was put there or taken out
abbrev pub with_slots : SlotList → List (Option Unresolved) → SlotList
with_slots s items = record s { items = items }
