-- The fates of parked packets as a list of lines, in the order in which they were parked.
use Rattle.std.specs.Prelude.{◌≡◌, ℕ, ◌<◌, ◌==◌, true, if◌then◌else◌, Option, option_map, List, map, find, count_by}
use Rattle.std.specs.List.{AllByRecursion}
use Rattle.mr_base.specs.declared.numbers.LaneNo.{LaneNo}
use Rattle.mr_model.specs.declared.ending.Fate.{Fate}
use Rattle.mr_model.specs.declared.ending.Fate.TheVariants.{Waiting}
use Rattle.mr_model.specs.declared.ending.FateLine.{FateLine}
use Rattle.mr_laws.specs.Once.{is_line_of}

-- the lines, and how many packets each lane has, which is how many lines it may have
pub record FateList : Type 0 where
  pub lines : List FateLine
  pub packets : List ℕ

-- the line of a packet that waits
abbrev pub waiting_line : LaneNo → ℕ → FateLine
waiting_line lane index = record { lane = lane; index = index; fate = Waiting }

-- a line, with this fate where it is the packet's
abbrev pub ended_line : LaneNo → ℕ → Fate → FateLine → FateLine
ended_line lane index fate f = if is_line_of lane index f then record f { fate = fate } else f

-- the lines once the packet has this fate
abbrev pub ended : LaneNo → ℕ → Fate → List FateLine → List FateLine
ended lane index fate lines = map (ended_line lane index fate) lines

-- the fate of a packet, if it has a line
abbrev pub fate_in_lines : LaneNo → ℕ → List FateLine → Option Fate
fate_in_lines lane index lines = option_map (λ f. f.fate) (find (is_line_of lane index) lines)

-- how many lines a lane has
abbrev pub lane_count : LaneNo → List FateLine → ℕ
lane_count lane lines = count_by (λ f. f.lane.0 == lane.0) lines

-- the index is above those of the lane's lines
abbrev pub IsNext : LaneNo → ℕ → List FateLine → Type 0
IsNext lane index lines = AllByRecursion (λ f. (f.lane.0 == lane.0) ≡ true → f.index < index) lines
