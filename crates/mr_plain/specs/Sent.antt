-- The packets that wait are those of slow entries of the history.
use Rattle.std.specs.Prelude.{◌≡◌, ℕ, ◌≤◌, ◌==◌, ◌&&◌, ◌||◌, Bool, true, false, List, [], ◌∷◌}
use Rattle.std.specs.List.{AllByRecursion}
use Rattle.mr_base.specs.declared.numbers.LaneNo.{LaneNo}
use Rattle.mr_model.specs.declared.entry.Entry.{Entry}
use Rattle.mr_model.specs.declared.entry.Entry.TheVariants.{Slow}
use Rattle.mr_model.specs.Counts.{length_of}
use Rattle.mr_model.specs.Past.{last_index}
use Rattle.mr_model.specs.WaitingList.{Waiter, Awaiting}

-- an entry is the slow one of a packet
abbrev pub is_slow_of : LaneNo → ℕ → Entry → Bool
is_slow_of lane index (Slow l i look flow o) = l.0 == lane.0 && i == index
is_slow_of lane index _ = false

abbrev pub has_slow : List Entry → LaneNo → ℕ → Bool
has_slow [] lane index = false
has_slow (e ∷ h) lane index = is_slow_of lane index e || has_slow h lane index

-- the history has the packet's slow entry, and its length there is that of the packet
pub record IsSent (h : List Entry) (w : Waiter) : Type 0 where
  pub there : has_slow h w.lane w.index ≡ true
  pub long : length_of h w.lane w.index ≡ w.flow.length

abbrev pub AreSent : List Entry → List Awaiting → Type 0
AreSent h ws = AllByRecursion (λ a. AllByRecursion (λ w. IsSent h w) a.packets) ws

-- the slow entries of a lane have indexes up to its last one
abbrev pub IsIndexed : List Entry → Type 0
IsIndexed h = (lane : LaneNo) (index : ℕ) → has_slow h lane index ≡ true → index ≤ last_index lane h
