-- What is left of the limits after a history.
use Rattle.std.specs.Prelude.{◌≡◌, ℕ, ◌+◌, ◌-◌, ◌≤◌, List, length, sum, sum_by}
use Rattle.std.specs.Prelude.{slice_index_or}
use Rattle.mr_base.specs.declared.limits.TheConstants.{MOST_DEVICES, MOST_HISTORY}
use Rattle.mr_base.specs.declared.numbers.LaneNo.{LaneNo}
use Rattle.mr_model.specs.declared.entry.Entry.{Entry}
use Rattle.mr_model.specs.declared.entry.Entry.TheVariants.{Call, Slow, Settle, Tick, Recv}
use Rattle.mr_model.specs.declared.entry.Entry.TheVariants.{EndPhase}
use Rattle.mr_model.specs.declared.limits.Limits.{Limits}
use Rattle.mr_model.specs.Legal.{IsLane, packets_given}
use Rattle.mr_model.specs.Past.{controls, phases, packets, last_index}
use Rattle.mr_plain.specs.declared.past.LanePast.{LanePast}
use Rattle.mr_plain.specs.declared.past.Past.{Past}

-- The limits leave room for so few entries that 32 bits number them, and have no more devices
-- than there may be.
pub record AreSmall (limits : Limits) : Type 0 where
  pub entries : limits.controls + limits.phases + sum limits.packets ≤ MOST_HISTORY
  pub devices : length limits.devices ≤ MOST_DEVICES

abbrev pub no_lane : LanePast
no_lane = record { left = 0; last = 0 }

-- a lane of so many packets, of which none came
abbrev pub fresh_lane : ℕ → LanePast
fresh_lane n = record { left = n; last = 0 }

abbrev pub lane_at : List LanePast → LaneNo → LanePast
lane_at lanes lane = slice_index_or lanes (lane.0 - 1) no_lane

-- what a lane has done
pub record IsLanePast (limits : Limits) (h : List Entry) (lane : LaneNo)
    (l : LanePast) : Type 0 where
  pub left : packets lane h + l.left ≡ packets_given limits lane
  pub last : l.last ≡ last_index lane h

pub record IsPast (limits : Limits) (h : List Entry) (p : Past) : Type 0 where
  pub controls_left : controls h + p.controls_left ≡ limits.controls
  pub phases_left : phases h + p.phases_left ≡ limits.phases
  pub lanes : length p.lanes.items ≡ length limits.packets
  pub each : (lane : LaneNo) → IsLane limits lane →
      IsLanePast limits h lane (lane_at p.lanes.items lane)
  -- each entry uses up one of what is left
  pub bound : length h + p.controls_left + p.phases_left + sum_by (λ l. l.left) p.lanes.items
      ≤ limits.controls + limits.phases + sum limits.packets

-- the lane is one of these
abbrev pub IsAmong : LaneNo → List LanePast → Type 0
IsAmong lane lanes = (1 ≤ lane.0) × (lane.0 ≤ length lanes)

-- what is left is enough for an entry
abbrev pub CanTake : Past → Entry → Type 0
CanTake p (Call d r reply released) = 1 ≤ p.controls_left
CanTake p (Tick d ms) = 1 ≤ p.controls_left
CanTake p (Recv d message) = 1 ≤ p.controls_left
CanTake p (Slow lane index look flow o) =
    IsAmong lane p.lanes.items × (1 ≤ (lane_at p.lanes.items lane).left)
CanTake p (Settle lane records) =
    IsAmong lane p.lanes.items × (length records ≤ (lane_at p.lanes.items lane).left)
CanTake p EndPhase = 1 ≤ p.phases_left
