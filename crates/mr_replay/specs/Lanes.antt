-- How far a lane has come with its packets.
use Rattle.std.specs.Prelude.{◌≡◌, ℕ, ◌+◌, ◌-◌, ◌<◌, ◌≤◌, ◌==◌, List, [], drop, get_or, length, map, take}
use Rattle.std.specs.List.{AllByRecursion, filter}
use Rattle.mr_callers.specs.Deeds.{Sends}
use Rattle.mr_load.specs.Dues.{Due, LaneValue, sent_of}
use Rattle.mr_load.specs.Made.{Sent, sent}
use Rattle.mr_model.specs.declared.entry.Entry.{Entry}
use Rattle.mr_model.specs.declared.limits.Limits.{Limits}
use Rattle.mr_model.specs.Legal.{IsLane, packets_given}
use Rattle.mr_authors.specs.Authors.{own}
use Rattle.mr_router.specs.Callers as router

-- those of a lane's packets that are due in phase k
abbrev pub due_in : ℕ → List Due → List Due
due_in k ds = filter (λ d. d.phase == k) ds

-- the packet at a place, if there is one
abbrev pub next_due : ℕ → List Due → List Due
next_due place ds = take 1 (drop place ds)

-- The limits have the lane, with as many packets as are due, all from devices that there are.
pub record LaneFits (limits : Limits) (v : LaneValue) : Type 0 where
  pub lane_is : IsLane limits v.lane
  pub given : packets_given limits v.lane ≡ length v.packets
  pub devices : AllByRecursion (λ d. d.dev ≤ length limits.devices) v.packets

-- the entries that a lane made itself
abbrev pub own_of : router.LaneValue → List Entry
own_of l = own l.lane.0 l.seen

-- Entries have those of the lane's packets that stand before a place.
pub record HasSent (v : LaneValue) (place : ℕ) (h : List Entry) : Type 0 where
  pub within : place ≤ length v.packets
  pub sent_is : sent v.lane.0 h ≡ map sent_of (take place v.packets)

-- Entries have just those of the lane's packets that are due before phase k, up to a place.
pub record LaneReady (k : ℕ) (v : LaneValue) (place : ℕ) (h : List Entry) : Type 0 where
  pub has : HasSent v place h
  pub past : AllByRecursion (λ d. d.phase < k) (take place v.packets)
  pub left : AllByRecursion (λ d. k ≤ d.phase) (drop place v.packets)

-- Entries have just those of the lane's packets that are due before phase k.
pub record IsReady (k : ℕ) (v : LaneValue) (h : List Entry) : Type 0 where
  pub place : ℕ
  pub ready : LaneReady k v place h

-- The lane sends these packets: they are in the entries of its own, behind those that it had.
pub record Hands (what : List Sent) (old new : router.LaneValue) : Type 0 where
  pub lane : new.lane ≡ old.lane
  pub sends : Sends old.lane.0 what (own_of old) (own_of new)

abbrev pub no_lane : LaneValue
no_lane = record { lane = record { 0 = 0 }; packets = [] }

-- lane number n, from 1
abbrev pub lane_at : List LaneValue → ℕ → LaneValue
lane_at vs n = get_or vs (n - 1) no_lane

-- The lanes are numbered from 1, and the limits have each of them.
pub record LanesFit (limits : Limits) (vs : List LaneValue) : Type 0 where
  pub numbers : (n : ℕ) → 1 ≤ n → n ≤ length vs → (lane_at vs n).lane.0 ≡ n
  pub each : (n : ℕ) → 1 ≤ n → n ≤ length vs → LaneFits limits (lane_at vs n)

-- A history has just those packets of each lane that are due before phase k.
abbrev pub LanesReady : ℕ → List LaneValue → List Entry → Type 0
LanesReady k vs h = (n : ℕ) → 1 ≤ n → n ≤ length vs → IsReady k (lane_at vs n) (own n h)

-- lane n has seen this history
abbrev pub at_lane : ℕ → List Entry → router.LaneValue
at_lane n h = record { lane = record { 0 = n }; seen = h }

-- These are the lanes 1 to n, which have seen a history.
pub record AreLanes (n : ℕ) (h : List Entry) (ls : List router.LaneValue) : Type 0 where
  pub many : length ls ≡ n
  pub each : (i : ℕ) (l : router.LaneValue) → i < n → get_or ls i l ≡ at_lane (i + 1) h

-- It is the turn of the lane at a place, counted from 0, in phase k.
pub record HasTurn (limits : Limits) (k : ℕ) (vs : List LaneValue) (i : ℕ) (l : router.LaneValue) : Type 0 where
  pub within : i < length vs
  pub lane : l.lane ≡ (lane_at vs (i + 1)).lane
  pub fits : LaneFits limits (lane_at vs (i + 1))
  pub ready : IsReady k (lane_at vs (i + 1)) (own_of l)

-- A lane has sent what was due in phase k.
pub record HadTurn (k : ℕ) (v : LaneValue) (old new : router.LaneValue) : Type 0 where
  pub sends : Hands (map sent_of (due_in k v.packets)) old new
  pub ready : IsReady (k + 1) v (own_of new)

-- So has each lane.
pub record AllSend (k : ℕ) (vs : List LaneValue) (old new : List router.LaneValue) : Type 0 where
  pub many : length new ≡ length old
  pub each : (i : ℕ) (l : router.LaneValue) → i < length old → HadTurn k (lane_at vs (i + 1)) (get_or old i l) (get_or new i l)
