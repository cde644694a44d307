-- What `Fates` keeps of its fields.
use Rattle.std.specs.Prelude.{◌≡◌, ℕ, ◌+◌, ◌≤◌, true, false, Some, List, ◌∷◌, ◌++◌, length, sum_by, slice_get}
use Rattle.std.specs.List.{AllByRecursion}
use Rattle.mr_base.specs.declared.numbers.LaneNo.{LaneNo}
use Rattle.mr_model.specs.declared.ending.FateLine.{FateLine}
use Rattle.mr_laws.specs.Once.{is_line_of}
use Rattle.mr_fates.specs.declared.fates.TheConstants.{MOST_PACKETS}
use Rattle.mr_fates.specs.Lanes.{PlaceList, places_from}

-- a lane's places are those of its lines, no more than there is room for
pub record IsLaneOf (lines : List FateLine) (n : ℕ) (lane : PlaceList) : Type 0 where
  pub are : lane.places ≡ places_from n 0 lines
  pub fit : length lane.places ≤ lane.room

pub record IsKept (lines : List FateLine) (lanes : List PlaceList) (capacity : ℕ) : Type 0 where
  -- lane 1 stands first
  pub each : (i : ℕ) (lane : PlaceList) → slice_get lanes i ≡ Some lane
      → IsLaneOf lines (i + 1) lane
  pub owned : AllByRecursion (λ f. (1 ≤ f.lane.0) × (f.lane.0 ≤ length lanes)) lines
  pub counted : length lines ≡ sum_by (λ lane. length lane.places) lanes
  pub bounded : sum_by (λ lane. lane.room) lanes ≤ MOST_PACKETS
  pub has_room : sum_by (λ lane. lane.room) lanes ≤ capacity

-- no line is the packet's
abbrev pub HasNone : LaneNo → ℕ → List FateLine → Type 0
HasNone lane index lines = AllByRecursion (λ f. is_line_of lane index f ≡ false) lines

-- one line is the packet's, and stands at place n
pub record StandsAlone (lane : LaneNo) (index : ℕ) (lines : List FateLine) (n : ℕ) : Type 0 where
  pub before : List FateLine
  pub line : FateLine
  pub after : List FateLine
  pub whole : lines ≡ before ++ line ∷ after
  pub place : length before ≡ n
  pub is_its : is_line_of lane index line ≡ true
  pub none_before : HasNone lane index before
  pub none_after : HasNone lane index after
