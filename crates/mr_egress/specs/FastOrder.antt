-- The packets that were forwarded without the lock, by what their looks had seen.
use Rattle.std.specs.Prelude.{◌≡◌, ℕ, ◌+◌, ◌≤◌, ◌==◌, Bool, List, [], ◌∷◌, map, filter, flat_map, take, drop}
use Rattle.std.specs.List.{AllByRecursion}
use Rattle.mr_base.specs.declared.numbers.LaneNo.{LaneNo}
use Rattle.mr_model.specs.declared.entry.Entry.{Entry}
use Rattle.mr_model.specs.declared.entry.Entry.TheVariants.{Settle}
use Rattle.mr_model.specs.declared.entry.FastRecord.{FastRecord}
use Rattle.mr_egress.specs.declared.fast.FastSent.{FastSent}

abbrev pub fast_sent : LaneNo → FastRecord → FastSent
fast_sent lane r = record { lane = lane; index = r.index; look = r.look; outs = r.outs }

-- the fast packets of an entry
abbrev pub fast_of : Entry → List FastSent
fast_of (Settle lane records) = map (fast_sent lane) records
fast_of _ = []

abbrev pub sees : ℕ → FastSent → Bool
sees n p = p.look == n

abbrev pub AreFrom : ℕ → List FastSent → Type 0
AreFrom n ps = AllByRecursion (λ p. n ≤ p.look) ps

-- no look is above one behind it
abbrev pub AreSorted : List FastSent → Type 0
AreSorted [] = Unit {0}
AreSorted (p ∷ ps) = AreFrom p.look ps × AreSorted ps

-- the packets with each look from n on are the same
abbrev pub SameFrom : ℕ → List FastSent → List FastSent → Type 0
SameFrom n ps qs = (m : ℕ) → n ≤ m → filter (sees m) ps ≡ filter (sees m) qs

-- the fast packets of a history by their looks, those with one look in settle order
pub record AreFastOf (ps : List FastSent) (h : List Entry) : Type 0 where
  pub sorted : AreSorted ps
  pub same : SameFrom 0 ps (flat_map fast_of h)

-- So many packets in front are those with this look, and the others have greater looks.
pub record IsFront (n : ℕ) (ps : List FastSent) (count : ℕ) : Type 0 where
  pub seen : filter (sees n) ps ≡ take count ps
  pub sorted : AreSorted (drop count ps)
  pub from : AreFrom (n + 1) (drop count ps)
  pub same : SameFrom (n + 1) (drop count ps) ps
