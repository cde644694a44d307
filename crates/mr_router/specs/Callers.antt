-- What contracts see of lanes and daemons.
use Rattle.std.specs.Prelude.{ℕ, zero, suc, List, [], ◌∷◌, ◌++◌}
use Rattle.mr_base.specs.declared.numbers.DaemonNo.{DaemonNo}
use Rattle.mr_base.specs.declared.numbers.LaneNo.{LaneNo}
use Rattle.mr_model.specs.declared.entry.Entry.{Entry}

-- a lane, and the history as it has last seen it
pub record LaneValue : Type 0 where
  pub lane : LaneNo
  pub seen : List Entry

-- a daemon, and the history as it has last seen it
pub record DaemonValue : Type 0 where
  pub daemon : DaemonNo
  pub seen : List Entry

-- lane n, which has seen nothing
abbrev pub new_lane : ℕ → LaneValue
new_lane n = record { lane = record { 0 = n }; seen = [] }

abbrev pub new_daemon : ℕ → DaemonValue
new_daemon n = record { daemon = record { 0 = n }; seen = [] }

-- the lanes 1 to n
abbrev pub new_lanes : ℕ → List LaneValue
new_lanes zero = []
new_lanes (suc n) = new_lanes n ++ new_lane (suc n) ∷ []

abbrev pub new_daemons : ℕ → List DaemonValue
new_daemons zero = []
new_daemons (suc n) = new_daemons n ++ new_daemon (suc n) ∷ []

-- the lane has seen this history
abbrev pub lane_sees : List Entry → LaneValue → LaneValue
lane_sees h l = record l { seen = h }

abbrev pub daemon_sees : List Entry → DaemonValue → DaemonValue
daemon_sees h d = record d { seen = h }
