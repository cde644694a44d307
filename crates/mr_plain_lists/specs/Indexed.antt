-- How the entries are kept: at places, oldest first, those that are gone among them; and how they
-- are found, by an index from each source and group to its newest entry, which leads to the older.
use Rattle.std.specs.Prelude.{◌≡◌, ℕ, suc, ◌<◌, ◌≤◌, nat_eq, ◌&&◌, Bool, true, false, if◌then◌else◌, Some, unwrap_or, not, List, [], ◌∷◌, length, reverse, slice_get, drop}
use Rattle.std.specs.HashMap.{HashMap, get}
use Rattle.std.specs.declared.hash.FoldHasher.{FoldHasher}
use Rattle.std.specs.declared.hash.BuildHasherDefault.{BuildHasherDefault}
use Rattle.mr_base.specs.declared.numbers.Addr.{Addr}
use Rattle.mr_base.specs.declared.route.Route.{Route}
use Rattle.std.specs.List.{AllByRecursion}
use Rattle.mr_model.specs.RouteList.{is_entry, has_number}
use Rattle.mr_plain_lists.specs.declared.slots.Slot.{Slot}

-- the entries that are there, oldest first
abbrev pub oldest_first : List Slot → List Route
oldest_first [] = []
oldest_first (x ∷ slots) = if x.live then x.route ∷ oldest_first slots else oldest_first slots

abbrev pub newest_first : List Slot → List Route
newest_first slots = reverse (oldest_first slots)

abbrev pub Index : Type 0
Index = HashMap (ℕ × ℕ) ℕ (BuildHasherDefault FoldHasher)

abbrev pub same_key : ℕ × ℕ → ℕ × ℕ → Bool
same_key a b = nat_eq a.0 b.0 && nat_eq a.1 b.1

-- how many places there are up to the newest entry of a source and group; 0 where there is none
abbrev pub reach : Index → Addr → Addr → ℕ
reach index src dst = unwrap_or (get same_key index (src.0, dst.0)) 0

-- The last of the first n places has an entry of the source and group, and behind these, up to
-- place i, there is none; with n = 0 there is none at all up to place i.
pub record Leads (slots : List Slot) (n i : ℕ) (src dst : Addr) : Type 0 where
  pub within : n ≤ i
  pub last : (j : ℕ) (x : Slot) → n ≡ suc j → slice_get slots j ≡ Some x → is_entry src dst x.route ≡ true
  pub none : (j : ℕ) (x : Slot) → n ≤ j → j < i → slice_get slots j ≡ Some x → x.live ≡ true
      → is_entry src dst x.route ≡ false

-- each place leads to the next older entry of its source and group
abbrev pub AreLinked : List Slot → Type 0
AreLinked slots = (i : ℕ) (x : Slot) → slice_get slots i ≡ Some x
    → Leads slots x.older i x.route.src x.route.dst

pub record IsIndexed (slots : List Slot) (index : Index) (count : ℕ) : Type 0 where
  pub linked : AreLinked slots
  pub newest : (src dst : Addr) → Leads slots (reach index src dst) (length slots) src dst
  pub counted : count ≡ length (oldest_first slots)

-- no entry that is there has the number
abbrev pub NoneOf : ℕ → List Slot → Type 0
NoneOf number slots = AllByRecursion (λ r. has_number number r ≡ false) (newest_first slots)

-- the newest entry of a number is at place i
pub record IsNewest (number : ℕ) (slots : List Slot) (i : ℕ) : Type 0 where
  pub within : i < length slots
  pub live : (x : Slot) → slice_get slots i ≡ Some x → x.live ≡ true
  pub named : (x : Slot) → slice_get slots i ≡ Some x → has_number number x.route ≡ true
  pub later : NoneOf number (drop (suc i) slots)

-- a static entry goes, where `fixed`, and another, where `loose`
abbrev pub flushed : Bool → Bool → Slot → Slot
flushed loose fixed x = record x { live = x.live && not (if x.route.fixed then fixed else loose) }
