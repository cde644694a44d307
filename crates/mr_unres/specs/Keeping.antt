-- What the waiting list keeps of its fields.
use Rattle.std.specs.Prelude.{◌≡◌, ℕ, ◌*◌, ◌≤◌, List, [], ◌∷◌, length, take}
use Rattle.std.specs.List.{AllByRecursion}
use Rattle.mr_unres.specs.declared.unresolved.Unresolved.{Unresolved}
use Rattle.mr_unres.specs.declared.unresolved.TheConstants.{MOST_ENTRIES, MOST_PACKETS}
use Rattle.mr_unres.specs.Slots.{SlotList, somes}

-- none of these was made before this moment
abbrev pub NoneBefore : ℕ → List Unresolved → Type 0
NoneBefore since es = AllByRecursion (λ e. since ≤ e.since) es

-- the entries stand in the order of their moments
abbrev pub IsRising : List Unresolved → Type 0
IsRising [] = Unit {0}
IsRising (e ∷ es) = NoneBefore e.since es × IsRising es

-- no entry has more than four packets
abbrev pub AreFew : List Unresolved → Type 0
AreFew es = AllByRecursion (λ e. length e.packets ≤ MOST_PACKETS) es

pub record IsKept (limit count oldest : ℕ) (slots : SlotList) : Type 0 where
  pub counted : count ≡ length (somes slots.items)
  pub within : count ≤ limit
  pub bounded : limit ≤ MOST_ENTRIES
  pub room : 2 * limit ≤ slots.capacity
  pub inside : oldest ≤ length slots.items
  pub gone : somes (take oldest slots.items) ≡ []
  pub rising : IsRising (somes slots.items)
  pub few : AreFew (somes slots.items)
