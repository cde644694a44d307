-- How often a packet stands in a list, and which line of fates is its own.
use Rattle.std.specs.Prelude.{ℕ, ◌==◌, ◌&&◌, Bool, List, sum_by, count_by}
use Rattle.mr_base.specs.declared.numbers.LaneNo.{LaneNo}
use Rattle.mr_model.specs.declared.ending.FateLine.{FateLine}
use Rattle.mr_model.specs.declared.entry.Entry.{Entry}
use Rattle.mr_model.specs.declared.entry.ReleasedId.{ReleasedId}
use Rattle.mr_model.specs.Fate.{parks}
use Rattle.mr_model.specs.WaitingList.{Awaiting}

-- among those that a call releases
abbrev pub times_released : LaneNo → ℕ → List ReleasedId → ℕ
times_released lane index released =
    count_by (λ r. r.lane.0 == lane.0 && r.index == index) released

-- among those that wait
abbrev pub times_waiting : LaneNo → ℕ → List Awaiting → ℕ
times_waiting lane index waiting =
    sum_by (λ a. count_by (λ w. w.lane.0 == lane.0 && w.index == index) a.packets) waiting

-- among those that were parked
abbrev pub times_parked : LaneNo → ℕ → List Entry → ℕ
times_parked lane index h = count_by (λ e. parks e lane index) h

-- whether a line of fates is this packet's
abbrev pub is_line_of : LaneNo → ℕ → FateLine → Bool
is_line_of lane index x = x.lane.0 == lane.0 && x.index == index
