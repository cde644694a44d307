-- The next packet of lane 1 may come.
use Rattle.std.specs.Prelude.{ℕ, ◌≤◌, List, length}
use Rattle.mr_base.specs.declared.numbers.LaneNo.{LaneNo}
use Rattle.mr_model.specs.declared.entry.Entry.{Entry}
use Rattle.mr_model.specs.Past.{last_index, last_look}

abbrev pub lane_1 : LaneNo
lane_1 = record { 0 = 1 }

-- No packet of the lane had an index above this; each look is one of the history's numbers.
pub record IsReady (h : List Entry) (last : ℕ) : Type 0 where
  pub index : last_index lane_1 h ≤ last
  pub look : last_look lane_1 h ≤ length h
