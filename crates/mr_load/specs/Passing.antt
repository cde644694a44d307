-- What a pass over items gives to the lanes.
use Rattle.std.specs.Prelude.{◌≡◌, ℕ, ◌+◌, ◌≤◌, List, [], ◌∷◌, ◌++◌, length}
use Rattle.std.specs.List.{AllByRecursion}
use Rattle.mr_load.specs.Dues.{IsBefore, due_of, dues_by}
use Rattle.mr_load.specs.Items.{Content, in_row, items_by, numbered}
use Rattle.mr_load.specs.Loading.{skip_of, skip_dev, items_in}
use Rattle.mr_load.specs.declared.passing.Passed.{Passed}
use Rattle.mr_scenario.specs.declared.scenario.Given.{Given}
use Rattle.mr_scenario.specs.declared.scenario.Item.{Item}
use Rattle.mr_scenario.specs.declared.scenario.Phase.{Phase}

-- a fact of each lane and its number, of which the first is n
abbrev pub EachFrom : (ℕ → Passed → Type 0) → ℕ → List Passed → Type 0
EachFrom P n [] = Unit {0}
EachFrom P n (a ∷ ls) = P n a × EachFrom P (n + 1) ls

-- the same of each lane before and after
abbrev pub BothFrom : (ℕ → Passed → Passed → Type 0) → ℕ → List Passed → List Passed → Type 0
BothFrom P n [] [] = Unit {0}
BothFrom P n (a ∷ ls) (b ∷ bs) = P n a b × BothFrom P (n + 1) ls bs
BothFrom P n _ _ = ⊥

-- The item is of one of so many lanes.
pub record IsOfLanes (lanes : ℕ) (i : Item) : Type 0 where
  pub least : 1 ≤ i.lane.0
  pub most : i.lane.0 ≤ lanes

-- a lane of which no item was passed over
pub record IsFresh (lane : ℕ) (p : Passed) : Type 0 where
  pub lane_is : p.packets.lane ≡ record { 0 = lane }
  pub packets : p.packets.packets ≡ []
  pub skips : p.skips.items ≡ []
  pub devs : p.devs.items ≡ []
  pub next : p.next ≡ 1

-- a lane that can take so many items of phase k
pub record IsOpen (k room lane : ℕ) (p : Passed) : Type 0 where
  pub lane_is : p.packets.lane ≡ record { 0 = lane }
  pub first : 1 ≤ p.next
  pub before : AllByRecursion (IsBefore p.next k) p.packets.packets
  pub fits : p.next + room ≤ 4294967295

-- what a row of items that a line of phase k brings gives to their lane
pub record PassesRow (k : ℕ) (i : Item) (cs : List Content) (old new : Passed) : Type 0 where
  pub lane_is : new.packets.lane ≡ old.packets.lane
  pub packets : new.packets.packets ≡ old.packets.packets ++ in_row (due_of k i) old.next cs
  pub skips : new.skips.items ≡ old.skips.items ++ in_row (skip_of i) old.next cs
  pub devs : new.devs.items ≡ old.devs.items ++ in_row (skip_dev i) old.next cs
  pub next : new.next ≡ old.next + length cs
  pub before : AllByRecursion (IsBefore new.next k) new.packets.packets

-- what lines of phase k give to a lane
pub record Passes (contents : Given → List Content) (k : ℕ) (is : List Item) (lane : ℕ) (old new : Passed) : Type 0 where
  pub lane_is : new.packets.lane ≡ old.packets.lane
  pub packets : new.packets.packets ≡ old.packets.packets ++ numbered (due_of k) contents lane old.next is
  pub skips : new.skips.items ≡ old.skips.items ++ numbered skip_of contents lane old.next is
  pub devs : new.devs.items ≡ old.devs.items ++ numbered skip_dev contents lane old.next is
  pub next : new.next ≡ old.next + items_by contents lane is
  pub before : AllByRecursion (IsBefore new.next k) new.packets.packets

-- what all lines of these phases give to a lane
pub record HasPassed (contents : Given → List Content) (ps : List Phase) (lane : ℕ) (now : Passed) : Type 0 where
  pub lane_is : now.packets.lane ≡ record { 0 = lane }
  pub packets : now.packets.packets ≡ dues_by contents lane 0 [] ps
  pub skips : now.skips.items ≡ numbered skip_of contents lane 1 (items_in ps)
  pub devs : now.devs.items ≡ numbered skip_dev contents lane 1 (items_in ps)
  pub next : now.next ≡ items_by contents lane (items_in ps) + 1
  pub before : AllByRecursion (IsBefore now.next (length ps)) now.packets.packets
