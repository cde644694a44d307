-- The rules of a history's entries. Each asks of the scenario, of the history g before, and of the entry itself.
use Rattle.std.specs.Prelude.{◌≡◌, ℕ, ◌+◌, ◌<◌, ◌≤◌, false, Some, List, [], ◌∷◌, ◌++◌, IfSome, fold, length, slice_get, take}
use Rattle.mr_base.specs.declared.numbers.DaemonNo.{DaemonNo}
use Rattle.mr_base.specs.declared.numbers.LaneNo.{LaneNo}
use Rattle.mr_load.specs.Callers.{has_machine}
use Rattle.mr_load.specs.Made.{asked, sent}
use Rattle.mr_load.specs.declared.loading.Loaded.{Loaded}
use Rattle.mr_model.specs.Answer.{answer}
use Rattle.mr_model.specs.Legal.{IsDaemon, IsForward, IsLane, least_look, message_for}
use Rattle.mr_model.specs.Outcome.{outcome}
use Rattle.mr_model.specs.Past.{controls, phases}
use Rattle.mr_model.specs.State.{state}
use Rattle.mr_model.specs.declared.entry.Entry.{Entry}
use Rattle.mr_model.specs.declared.entry.Entry.TheVariants.{Call, Slow, Settle, Tick, Recv, EndPhase}
use Rattle.mr_model.specs.declared.entry.FastRecord.{FastRecord}
use Rattle.mr_model.specs.declared.entry.ReleasedId.{ReleasedId}
use Rattle.mr_model.specs.declared.limits.Limits.{Limits}
use Rattle.mr_model.specs.declared.reply.Reply.{Reply}
use Rattle.mr_model.specs.declared.request.Request.{Request}
use Rattle.mr_plain.specs.Following.{SlowLooks}
use Rattle.smc_core.specs.Machine.{Machine}
use Rattle.smc_daemon.specs.Courses.{DrivesFrom}
use Rattle.mr_check.specs.Callers.{lines_to, machine_at, packets_to}

-- These stand first among all.
abbrev pub IsFront : {A : Type 0} → List A → List A → Type 0
IsFront front all = take (length front) all ≡ front

-- the number of phases up to the present one
abbrev pub present : List Entry → ℕ
present g = phases g + 1

-- With the entry the lane has sent the first of the packets that it is to send up to the end of this phase.
pub record SendsNext (l : Loaded) (g : List Entry) (lane : LaneNo) (e : Entry) : Type 0 where
  pub lane_is : IsLane l.limits lane
  pub next : IsFront (sent lane.0 (g ++ e ∷ [])) (packets_to l (present g) lane.0)

-- In the phases up to the present one the daemon did in this history just what its machine does.
abbrev pub DrivesUpTo : Loaded → List Entry → ℕ → Machine → List Entry → Type 0
DrivesUpTo l g d machine h = DrivesFrom d machine [] (take (present g) l.scenario.phases) h

-- With the entry the daemon has asked the first of what it is to ask up to the end of this phase. If it has a routing machine,
-- something may stand behind the entry up to that end with which the daemon did just what its machine does.
pub record AsksNext (l : Loaded) (g : List Entry) (d : DaemonNo) (e : Entry) : Type 0 where
  pub daemon_is : IsDaemon l.limits d
  pub is_open : phases g < length l.scenario.phases
  pub next : has_machine l.scenario d.0 ≡ false → IsFront (asked d.0 (g ++ e ∷ [])) (lines_to l (present g) d.0)
  pub machine : (m : Machine) → machine_at l d.0 ≡ Some m → (later : List Entry) × DrivesUpTo l g d.0 m (g ++ e ∷ later)

-- An entry's call is the next one of its lane or daemon in this phase.
abbrev pub IsNext : Loaded → List Entry → Entry → Type 0
IsNext l g (Call d r reply released) = AsksNext l g d (Call d r reply released)
IsNext l g (Slow lane index look flow o) = SendsNext l g lane (Slow lane index look flow o)
IsNext l g (Settle lane records) = SendsNext l g lane (Settle lane records)
IsNext l g (Tick d ms) = AsksNext l g d (Tick d ms)
IsNext l g (Recv d message) = AsksNext l g d (Recv d message)
IsNext l g EndPhase = Unit {0}

-- A settle has 1 to 64 records.
abbrev pub HasSize : Entry → Type 0
HasSize (Settle lane records) = (1 ≤ length records) × (length records ≤ 64)
HasSize _ = Unit {0}

-- the control entries keep their limit
abbrev pub KeepsLimit : Limits → List Entry → Type 0
KeepsLimit limits g = controls g < limits.controls

-- a call's reply, and how many packets it releases, are the machine's
pub record IsCall (limits : Limits) (g : List Entry) (d : DaemonNo) (r : Request) (reply : Reply) (released : List ReleasedId) : Type 0 where
  pub room : KeepsLimit limits g
  pub replies : reply ≡ (answer limits g d r).reply
  pub many : length released ≡ length (answer limits g d r).released

-- Reply, message, outcome and number of released packets are the machine's, and the control entries keep their limit.
abbrev pub IsMachines : Limits → List Entry → Entry → Type 0
IsMachines limits g (Call d r reply released) = IsCall limits g d r reply released
IsMachines limits g (Slow lane index look flow o) = o ≡ outcome limits g flow
IsMachines limits g (Tick d ms) = KeepsLimit limits g
IsMachines limits g (Recv d message) = KeepsLimit limits g × (message ≡ message_for (state limits g) d)
IsMachines limits g _ = Unit {0}

-- A Slow's look is in its range.
abbrev pub HasLook : List Entry → Entry → Type 0
HasLook g (Slow lane index look flow o) = SlowLooks g lane look
HasLook g _ = Unit {0}

-- A phase of the scenario is open, and every call of it is made and settled.
pub record CanEnd (l : Loaded) (g : List Entry) : Type 0 where
  pub is_open : phases g < length l.scenario.phases
  pub lanes : (lane : ℕ) → 1 ≤ lane → lane ≤ l.scenario.lanes → sent lane g ≡ packets_to l (present g) lane
  pub daemons : (d : ℕ) → 1 ≤ d → d ≤ length l.scenario.daemons → has_machine l.scenario d ≡ false → asked d g ≡ lines_to l (present g) d
  pub machines : (d : ℕ) (m : Machine) → machine_at l d ≡ Some m → DrivesUpTo l g d m (g ++ EndPhase ∷ [])

-- A phase ends where it can.
abbrev pub EndsRight : Loaded → List Entry → Entry → Type 0
EndsRight l g EndPhase = CanEnd l g
EndsRight l g _ = Unit {0}

-- the rules of an entry's first line
pub record FirstLine (l : Loaded) (g : List Entry) (e : Entry) : Type 0 where
  pub next : IsNext l g e
  pub size : HasSize e
  pub machine : IsMachines l.limits g e
  pub look : HasLook g e
  pub ends : EndsRight l g e

-- the least look of record i of a settle
abbrev pub least_of : LaneNo → List Entry → List FastRecord → ℕ → ℕ
least_of lane g records i = fold (λ b r. r.look) (least_look lane g) (take i records)

-- A fast record's look is in its range, and its verdict there is that plain forward.
pub record RecordLooks (limits : Limits) (g : List Entry) (least : ℕ) (r : FastRecord) : Type 0 where
  pub within : r.look ≤ length g
  pub behind : least ≤ r.look
  pub forward : IsForward limits g r

-- the rule of an entry's line i behind its first: a released packet's line is the machine's, and a record looks right
abbrev pub FurtherLine : Loaded → List Entry → Entry → ℕ → Type 0
FurtherLine l g (Call d r reply released) i = slice_get released i ≡ slice_get (answer l.limits g d r).released i
FurtherLine l g (Settle lane records) i = IfSome (slice_get records i) (RecordLooks l.limits g (least_of lane g records i))
FurtherLine l g _ i = Unit {0}
