-- The histories that the one-thread machine may have.
use Rattle.std.specs.Prelude.{◌≡◌, ℕ, ◌+◌, ◌-◌, ◌≤◌, ◌<◌, max, Bool, true, false, Option, Some, None, List, [], ◌∷◌, ◌++◌, length, take, slice_index}
use Rattle.mr_base.specs.declared.numbers.DaemonNo.{DaemonNo}
use Rattle.mr_base.specs.declared.numbers.LaneNo.{LaneNo}
use Rattle.mr_model.specs.declared.entry.Entry.{Entry}
use Rattle.mr_model.specs.declared.entry.Entry.TheVariants.{Call, Slow, Settle, Tick, Recv, EndPhase}
use Rattle.mr_model.specs.declared.entry.FastRecord.{FastRecord}
use Rattle.mr_model.specs.declared.entry.ReleasedId.{ReleasedId}
use Rattle.mr_model.specs.declared.flow.Flow.{Flow}
use Rattle.mr_model.specs.declared.limits.Limits.{Limits}
use Rattle.mr_model.specs.declared.message.MessageId.{MessageId}
use Rattle.mr_model.specs.declared.outcome.Outcome.{Outcome}
use Rattle.mr_model.specs.declared.reply.Reply.{Reply}
use Rattle.mr_model.specs.declared.request.Request.{Request}
use Rattle.mr_model.specs.declared.verdict.Verdict.TheVariants.{Forward}
use Rattle.mr_model.specs.State.{State, state, is_owner}
use Rattle.mr_model.specs.Verdict.{verdict}
use Rattle.mr_model.specs.Outcome.{outcome}
use Rattle.mr_model.specs.Answer.{answer}
use Rattle.mr_model.specs.Past.{controls, phases, packets, last_own, last_end, last_index, last_look, own_before_slow}

-- the daemon is one of those that the limits have, numbered from 1
pub record IsDaemon (limits : Limits) (d : DaemonNo) : Type 0 where
  pub first : 1 ≤ d.0
  pub last : d.0 ≤ length limits.admins

pub record IsLane (limits : Limits) (lane : LaneNo) : Type 0 where
  pub first : 1 ≤ lane.0
  pub last : lane.0 ≤ length limits.packets

-- how many packets the limits give a lane
abbrev pub packets_given : Limits → LaneNo → ℕ
packets_given limits lane = slice_index limits.packets (lane.0 - 1)

-- the daemon is one of the limits', and they leave room for one more call, tick or receive
pub record HasControl (limits : Limits) (g : List Entry) (d : DaemonNo) : Type 0 where
  pub daemon : IsDaemon limits d
  pub room : controls g < limits.controls

-- A call's reply and released packets are the machine's answer.
pub record CallAgrees (limits : Limits) (g : List Entry) (d : DaemonNo) (r : Request) (reply : Reply) (released : List ReleasedId) : Type 0 where
  pub control : HasControl limits g d
  pub replies : reply ≡ (answer limits g d r).reply
  pub releases : released ≡ (answer limits g d r).released

abbrev pub front : List MessageId → Option MessageId
front [] = None
front (m ∷ ms) = Some m

-- the message that a receive gives: the oldest unread report, for the owner alone
abbrev pub message_for : State → DaemonNo → Option MessageId
message_for s d = if_owner (is_owner s d)
  where
    if_owner : Bool → Option MessageId
    if_owner true = front s.unread
    if_owner false = None

pub record RecvAgrees (limits : Limits) (g : List Entry) (d : DaemonNo) (message : Option MessageId) : Type 0 where
  pub control : HasControl limits g d
  pub gives : message ≡ message_for (state limits g) d

-- A slow packet is the lane's next, its outcome is the machine's, and its look, with which it was first looked up, is no
-- later than the history and no older than the lane's former look, its last own entry and the last end of a phase.
pub record SlowAgrees (limits : Limits) (g : List Entry) (lane : LaneNo) (index look : ℕ) (flow : Flow) (o : Outcome) : Type 0 where
  pub lane_is : IsLane limits lane
  pub room : packets lane g < packets_given limits lane
  pub next : last_index lane g < index
  pub is_outcome : o ≡ outcome limits g flow
  pub look_within : look ≤ length g
  pub look_former : last_look lane g ≤ look
  pub look_own : own_before_slow lane g ≤ look
  pub look_end : last_end g ≤ look

-- the verdict of a record's flow at its look is the plain forward that it keeps
abbrev pub IsForward : Limits → List Entry → FastRecord → Type 0
IsForward limits g r =
    verdict limits (take r.look g) r.flow.dev r.flow.src r.flow.dst r.flow.ttl ≡ Forward r.entry r.input r.outs

-- Fast records stand by rising index with looks that never fall: `index` is that of the packet before, `least` the least look.
abbrev pub RecordsAgree : Limits → List Entry → ℕ → ℕ → List FastRecord → Type 0
RecordsAgree limits g index least [] = Unit {0}
RecordsAgree limits g index least (r ∷ rs) =
    (index < r.index) × (r.look ≤ length g) × (least ≤ r.look) × IsForward limits g r × RecordsAgree limits g r.index r.look rs

-- the least look of a Settle's first record
abbrev pub least_look : LaneNo → List Entry → ℕ
least_look lane g = max (last_look lane g) (max (last_own lane g) (last_end g))

pub record SettleAgrees (limits : Limits) (g : List Entry) (lane : LaneNo) (records : List FastRecord) : Type 0 where
  pub lane_is : IsLane limits lane
  pub some : 1 ≤ length records
  pub most : length records ≤ 64
  pub room : packets lane g + length records ≤ packets_given limits lane
  pub all : RecordsAgree limits g (last_index lane g) (least_look lane g) records

-- the entry may stand behind the history g
abbrev pub Agrees : Limits → List Entry → Entry → Type 0
Agrees limits g (Call d r reply released) = CallAgrees limits g d r reply released
Agrees limits g (Slow lane index look flow o) = SlowAgrees limits g lane index look flow o
Agrees limits g (Settle lane records) = SettleAgrees limits g lane records
Agrees limits g (Tick d ms) = HasControl limits g d
Agrees limits g (Recv d message) = RecvAgrees limits g d message
Agrees limits g EndPhase = phases g < limits.phases

-- each of the entries h agrees with what stands before it, g first
abbrev pub LegalFrom : Limits → List Entry → List Entry → Type 0
LegalFrom limits g [] = Unit {0}
LegalFrom limits g (e ∷ h) = Agrees limits g e × LegalFrom limits (g ++ e ∷ []) h

-- Each entry agrees with the history before it.
abbrev pub IsLegal : Limits → List Entry → Type 0
IsLegal limits h = LegalFrom limits [] h
