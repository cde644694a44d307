-- What the machine knows after a history: one fold of one step over its entries.
use Rattle.std.specs.Prelude.{ℕ, ◌+◌, ◌==◌, Bool, false, not, is_some, if◌then◌else◌, Option, Some, None, unwrap_or, List, [], ◌∷◌, ◌++◌, drop, fold}
use Rattle.std.specs.List.{list_any}
use Rattle.mr_base.specs.declared.numbers.DaemonNo.{DaemonNo}
use Rattle.mr_base.specs.declared.numbers.LaneNo.{LaneNo}
use Rattle.mr_model.specs.declared.entry.Entry.{Entry}
use Rattle.mr_model.specs.declared.entry.Entry.TheVariants.{Call, Slow, Settle, Tick, Recv, EndPhase}
use Rattle.mr_model.specs.declared.entry.ReleasedId.{ReleasedId}
use Rattle.mr_model.specs.declared.flow.Flow.{Flow}
use Rattle.mr_model.specs.declared.limits.Limits.{Limits}
use Rattle.mr_model.specs.declared.message.MessageId.{MessageId}
use Rattle.mr_model.specs.declared.outcome.Outcome.{Outcome}
use Rattle.mr_model.specs.declared.outcome.Outcome.TheVariants as outcome
use Rattle.mr_model.specs.declared.reply.Reply.{Reply}
use Rattle.mr_model.specs.declared.reply.Reply.TheVariants as reply
use Rattle.mr_model.specs.declared.request.MfcCtl.{MfcCtl}
use Rattle.mr_model.specs.declared.request.Request.{Request}
use Rattle.mr_model.specs.declared.request.Request.TheVariants as request
use Rattle.mr_model.specs.VifList.{vif_on, has_flag}
use Rattle.mr_model.specs.RouteList.{is_named}
use Rattle.mr_model.specs.WaitingList.{Awaiting, awaiting_of, park, without_awaiting, unexpired}
use Rattle.mr_model.specs.Messages.{Attempt, told_by, attempts_by, no_cache}
use Rattle.mr_model.specs.Tables.{Tables, no_tables}
use Rattle.mr_model.specs.Granting.{what_of, tables_with}

pub record State : Type 0 where
  -- how many entries there are
  pub count : ℕ
  -- the daemon whose Init holds
  pub owner : Option DaemonNo
  pub tables : Tables
  -- milliseconds since the beginning
  pub now : ℕ
  pub waiting : List Awaiting
  -- oldest first
  pub unread : List MessageId
  -- newest first
  pub attempts : List Attempt

abbrev pub first_state : State
first_state = record {
  count = 0;
  owner = None;
  tables = no_tables;
  now = 0;
  waiting = [];
  unread = [];
  attempts = [];
}

abbrev pub is_owner : State → DaemonNo → Bool
is_owner s d = owned_by s.owner
  where
    owned_by : Option DaemonNo → Bool
    owned_by None = false
    owned_by (Some o) = o.0 == d.0

-- whether an entry of this name is there
abbrev pub is_there : State → MfcCtl → Option ℕ → Bool
is_there s c parent = list_any (is_named c.src c.dst parent) s.tables.routes

-- MRT_INIT makes the daemon the owner, MRT_DONE leaves none.
abbrev pub owner_by : Option DaemonNo → DaemonNo → Request → Option DaemonNo
owner_by owner d request.Init = Some d
owner_by owner d request.Finish = None
owner_by owner d _ = owner

-- A new entry takes the packets that wait for its origin and group; MRT_DONE, and MRT_FLUSH with flag 1, drop all.
abbrev pub waiting_by : State → Request → List Awaiting
waiting_by s (request.AddMfc c) =
    if is_there s c None then s.waiting else without_awaiting s.waiting c.src c.dst
waiting_by s (request.AddProxy c) =
    if is_there s c (Some c.parent) then s.waiting else without_awaiting s.waiting c.src c.dst
waiting_by s request.Finish = []
waiting_by s (request.Flush bits) = if has_flag bits 1 then [] else s.waiting
waiting_by s _ = s.waiting

-- MRT_DONE empties the unread reports.
abbrev pub unread_by : List MessageId → Request → List MessageId
unread_by unread request.Finish = []
unread_by unread _ = unread

-- What a good call of a daemon changes. What anyone but the owner adds or changes is static.
abbrev pub granted : Limits → State → DaemonNo → Request → State
granted limits s d r = record s {
  owner = owner_by s.owner d r;
  tables = tables_with s.tables (s.count + 1) (what_of limits.devices s.tables (not (is_owner s d)) r);
  waiting = waiting_by s r;
  unread = unread_by s.unread r;
}

-- what a decided packet tells and attempts
abbrev pub reported : State → LaneNo → ℕ → Outcome → State
reported s lane index o = record s {
  unread = s.unread ++ told_by s.tables.vifs lane index o;
  attempts = attempts_by s.now o ++ s.attempts;
}

abbrev pub after_released : State → ReleasedId → State
after_released s r = reported s r.lane r.index r.outcome

-- the report of a packet that is parked: NOCACHE, where it makes a waiting entry
abbrev pub told_by_parked : State → LaneNo → ℕ → Flow → List MessageId
told_by_parked s lane index flow =
    if is_some (awaiting_of s.waiting flow.src flow.dst) then []
    else no_cache (unwrap_or (vif_on s.tables.vifs flow.dev) 0) lane index ∷ []

abbrev pub arrived : State → LaneNo → ℕ → Flow → Outcome → State
arrived s lane index flow outcome.Parked = record s {
  waiting = park s.waiting s.now (record { lane = lane; index = index; flow = flow });
  unread = s.unread ++ told_by_parked s lane index flow;
}
arrived s lane index flow (outcome.Forward entry input outs) =
    reported s lane index (outcome.Forward entry input outs)
arrived s lane index flow (outcome.Register entry input outs told) =
    reported s lane index (outcome.Register entry input outs told)
arrived s lane index flow (outcome.Wrong entry vif report) =
    reported s lane index (outcome.Wrong entry vif report)
arrived s lane index flow (outcome.Dropped cause) = reported s lane index (outcome.Dropped cause)

abbrev pub called : Limits → State → DaemonNo → Request → Reply → List ReleasedId → State
called limits s d r reply.Good released = fold after_released (granted limits s d r) released
called limits s d r (reply.Value value) released = s
called limits s d r (reply.Sg totals) released = s
called limits s d r (reply.Vif totals) released = s
called limits s d r (reply.Refused errno) released = s

-- time goes on, and what has waited for ten seconds expires
abbrev pub ticked : State → ℕ → State
ticked s ms = record s { now = s.now + ms; waiting = unexpired (s.now + ms) s.waiting }

-- a receive takes the message that it gives from the front
abbrev pub received : State → Option MessageId → State
received s None = s
received s (Some message) = record s { unread = drop 1 s.unread }

abbrev pub effect : Limits → State → Entry → State
effect limits s (Call d r reply released) = called limits s d r reply released
effect limits s (Slow lane index look flow o) = arrived s lane index flow o
effect limits s (Settle lane records) = s
effect limits s (Tick d ms) = ticked s ms
effect limits s (Recv d message) = received s message
effect limits s EndPhase = s

abbrev pub counted : State → State
counted s = record s { count = s.count + 1 }

abbrev pub step : Limits → State → Entry → State
step limits s e = counted (effect limits s e)

-- the state after a history
abbrev pub state : Limits → List Entry → State
state limits h = fold (step limits) first_state h
