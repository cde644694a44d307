-- Which entry may stand behind a history, where looks are left aside; and what looks add.
use Rattle.std.specs.Prelude.{◌≡◌, ℕ, ◌+◌, ◌<◌, ◌≤◌, List, [], ◌∷◌, length}
use Rattle.mr_base.specs.declared.numbers.LaneNo.{LaneNo}
use Rattle.mr_model.specs.declared.entry.Entry.{Entry}
use Rattle.mr_model.specs.declared.entry.Entry.TheVariants.{Call, Slow, Settle, Tick, Recv}
use Rattle.mr_model.specs.declared.entry.Entry.TheVariants.{EndPhase}
use Rattle.mr_model.specs.declared.entry.FastRecord.{FastRecord}
use Rattle.mr_model.specs.declared.flow.Flow.{Flow}
use Rattle.mr_model.specs.declared.limits.Limits.{Limits}
use Rattle.mr_model.specs.declared.outcome.Outcome.{Outcome}
use Rattle.mr_base.specs.declared.numbers.DaemonNo.{DaemonNo}
use Rattle.mr_model.specs.declared.entry.ReleasedId.{ReleasedId}
use Rattle.mr_model.specs.declared.reply.Reply.{Reply}
use Rattle.mr_model.specs.declared.request.Request.{Request}
use Rattle.mr_model.specs.Answer.{answer}
use Rattle.mr_model.specs.Legal.{IsLane, IsForward, HasControl, CallAgrees, RecvAgrees}
use Rattle.mr_model.specs.Legal.{packets_given, least_look}
use Rattle.mr_model.specs.Outcome.{outcome}
use Rattle.mr_model.specs.Past.{phases, packets, last_end, last_index, last_look}
use Rattle.mr_model.specs.Past.{own_before_slow}

-- A slow packet is the lane's next, and its outcome is the machine's.
pub record SlowFollows (limits : Limits) (g : List Entry) (lane : LaneNo) (index : ℕ)
    (flow : Flow) (o : Outcome) : Type 0 where
  pub lane_is : IsLane limits lane
  pub room : packets lane g < packets_given limits lane
  pub next : last_index lane g < index
  pub is_outcome : o ≡ outcome limits g flow

-- a call's reply and released packets are the machine's
pub record IsAnswer (limits : Limits) (g : List Entry) (d : DaemonNo) (r : Request)
    (reply : Reply) (released : List ReleasedId) : Type 0 where
  pub replies : reply ≡ (answer limits g d r).reply
  pub releases : released ≡ (answer limits g d r).released

-- the records stand by rising index, all above this one
abbrev pub IndexesRise : ℕ → List FastRecord → Type 0
IndexesRise index [] = Unit {0}
IndexesRise index (r ∷ rs) = (index < r.index) × IndexesRise r.index rs

-- A settle has 1 to 64 records, which are the lane's next packets.
pub record SettleFollows (limits : Limits) (g : List Entry) (lane : LaneNo)
    (records : List FastRecord) : Type 0 where
  pub lane_is : IsLane limits lane
  pub some : 1 ≤ length records
  pub most : length records ≤ 64
  pub room : packets lane g + length records ≤ packets_given limits lane
  pub rise : IndexesRise (last_index lane g) records

-- The entry may stand behind the history g, whatever its looks are.
abbrev pub Follows : Limits → List Entry → Entry → Type 0
Follows limits g (Call d r reply released) = CallAgrees limits g d r reply released
Follows limits g (Slow lane index look flow o) = SlowFollows limits g lane index flow o
Follows limits g (Settle lane records) = SettleFollows limits g lane records
Follows limits g (Tick d ms) = HasControl limits g d
Follows limits g (Recv d message) = RecvAgrees limits g d message
Follows limits g EndPhase = phases g < limits.phases

-- The look of a slow packet is no later than the history and no older than the lane's former
-- look, its last own entry and the last end of a phase.
pub record SlowLooks (g : List Entry) (lane : LaneNo) (look : ℕ) : Type 0 where
  pub within : look ≤ length g
  pub former : last_look lane g ≤ look
  pub own : own_before_slow lane g ≤ look
  pub end : last_end g ≤ look

-- The looks of records never fall, and at each the verdict is the plain forward that the record
-- keeps.
abbrev pub RecordsLook : Limits → List Entry → ℕ → List FastRecord → Type 0
RecordsLook limits g least [] = Unit {0}
RecordsLook limits g least (r ∷ rs) =
    (r.look ≤ length g) × (least ≤ r.look) × IsForward limits g r × RecordsLook limits g r.look rs

-- what the looks of an entry owe
abbrev pub LooksAgree : Limits → List Entry → Entry → Type 0
LooksAgree limits g (Slow lane index look flow o) = SlowLooks g lane look
LooksAgree limits g (Settle lane records) = RecordsLook limits g (least_look lane g) records
LooksAgree limits g _ = Unit {0}
