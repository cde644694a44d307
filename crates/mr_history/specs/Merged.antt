-- Fast records among the entries.
use Rattle.std.specs.Prelude.{◌≡◌, ℕ, ◌≤◌, ◌==◌, Bool, List, [], ◌∷◌, map, filter}
use Rattle.std.specs.List.{AllByRecursion}
use Rattle.mr_model.specs.declared.entry.Entry.{Entry}
use Rattle.mr_model.specs.declared.entry.Entry.TheVariants.{Settle}
use Rattle.mr_model.specs.declared.step.Step.{Step}
use Rattle.mr_model.specs.declared.step.Step.TheVariants.{Fast}
use Rattle.mr_history.specs.declared.merging.LaneFast.{LaneFast}

-- the fast records of an entry, with their lane
abbrev pub lane_fast : Entry → List LaneFast
lane_fast (Settle lane records) = map (λ r. record { lane = lane; fast = r }) records
lane_fast _ = []

abbrev pub step_of : LaneFast → Step
step_of p = Fast p.lane p.fast

abbrev pub is_at : ℕ → LaneFast → Bool
is_at n p = p.fast.look == n

abbrev pub AreFrom : ℕ → List LaneFast → Type 0
AreFrom n ps = AllByRecursion (λ p. n ≤ p.fast.look) ps

-- no look is above one behind it
abbrev pub AreSorted : List LaneFast → Type 0
AreSorted [] = Unit {0}
AreSorted (p ∷ ps) = AreFrom p.fast.look ps × AreSorted ps

-- the records with each look from n on are the same
abbrev pub SameFrom : ℕ → List LaneFast → List LaneFast → Type 0
SameFrom n ps qs = (m : ℕ) → n ≤ m → filter (is_at m) ps ≡ filter (is_at m) qs
