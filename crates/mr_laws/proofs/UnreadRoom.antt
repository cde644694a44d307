-- At most 64 reports are unread.
use Rattle.std.proofs.Common.{◌≡◌, ℕ, ◌+◌, ◌-◌, ◌<◌, ◌≤◌, nat_lt, nat_le, Bool, true, false, if◌then◌else◌, Option, Some, None, unwrap_or, is_none, is_some, List, [], ◌∷◌, ◌++◌, length, drop, fold, refl, sym, subst, arith, length-append, length-drop}
use Rattle.std.proofs.lemmas.Bool.{and_parts, ltb-true}
use Rattle.mr_base.specs.declared.numbers.DaemonNo.{DaemonNo}
use Rattle.mr_base.specs.declared.numbers.LaneNo.{LaneNo}
use Rattle.mr_base.specs.declared.route.Route.{Route}
use Rattle.mr_base.specs.declared.vif_record.VifRecord.{VifRecord}
use Rattle.mr_model.specs.declared.entry.Entry.{Entry}
use Rattle.mr_model.specs.declared.entry.Entry.TheVariants.{Call, Slow, Recv}
use Rattle.mr_model.specs.declared.entry.ReleasedId.{ReleasedId}
use Rattle.mr_model.specs.declared.flow.Flow.{Flow}
use Rattle.mr_model.specs.declared.limits.Limits.{Limits}
use Rattle.mr_model.specs.declared.message.MessageId.{MessageId}
use Rattle.mr_model.specs.declared.outcome.Cause.TheVariants as cause
use Rattle.mr_model.specs.declared.outcome.Outcome.{Outcome}
use Rattle.mr_model.specs.declared.outcome.Outcome.TheVariants as outcome
use Rattle.mr_model.specs.declared.outcome.Report.TheVariants as report
use Rattle.mr_model.specs.declared.reply.Reply.TheVariants.{Good}
use Rattle.mr_model.specs.declared.request.Request.{Request}
use Rattle.mr_model.specs.declared.request.Request.TheVariants.{Finish, AddMfc, AddProxy}
use Rattle.mr_model.specs.declared.verdict.Verdict.{Verdict}
use Rattle.mr_model.specs.declared.verdict.Verdict.TheVariants as verdict
use Rattle.mr_model.specs.Answer.{release, released_in, made_route, freed_by}
use Rattle.mr_model.specs.Found.{found_in}
use Rattle.mr_model.specs.Legal.{Agrees, IsLegal}
use Rattle.mr_model.specs.Messages.{told_by, no_cache}
use Rattle.mr_model.specs.Outcome.{asks_report, judged, decided, joins, unmet, outcome_met, outcome_in}
use Rattle.mr_model.specs.State.{State, state, step, granted, reported, after_released, told_by_parked}
use Rattle.mr_model.specs.Unread.{accepts_in}
use Rattle.mr_model.specs.Verdict.{judge_in}
use Rattle.mr_model.specs.VifList.{vif_on}
use Rattle.mr_model.specs.WaitingList.{Waiter, Awaiting, awaiting_of}
use Rattle.mr_model.proofs.Induction.{state_induction, good_released}
use Rattle.mr_laws.proofs.Shaping.{parked_joins, new_room}

one_told : (unread : List MessageId) (m : MessageId) → length unread < 64 → length (unread ++ m ∷ []) ≤ 64
one_told unread m room = let longer : length (unread ++ m ∷ []) ≡ length unread + 1 = length-append unread (m ∷ []) in omega (arith, longer, room)

none_told : (unread : List MessageId) → length unread ≤ 64 → length (unread ++ []) ≤ 64
none_told unread room = let same : length (unread ++ []) ≡ length unread + 0 = length-append unread [] in omega (arith, same, room)

accepting : (s : State) → accepts_in s ≡ true → length s.unread < 64
accepting s p = ltb-true (length s.unread) 64 (and_parts (is_some s.owner) (nat_lt (length s.unread) 64) p).1

-- what a verdict comes to is told where there is room
decided_room : (s : State) (r : Route) (v : Verdict) (lane : LaneNo) (index : ℕ) → length s.unread ≤ 64 → length (s.unread ++ told_by s.tables.vifs lane index (decided s r v)) ≤ 64
decided_room s r (verdict.Forward n input outs) lane index room = none_told s.unread room
decided_room s r (verdict.Register n input outs) lane index room = by (accepts_in s) refl
  where
    by : (b : Bool) → accepts_in s ≡ b → length (s.unread ++ told_by s.tables.vifs lane index (outcome.Register n input outs b)) ≤ 64
    by true p = one_told s.unread _ (accepting s p)
    by false p = none_told s.unread room
decided_room s r (verdict.Wrong n vif) lane index room = by (asks_report s r vif) (accepts_in s) refl
  where
    by : (a b : Bool) → accepts_in s ≡ b → length (s.unread ++ told_by s.tables.vifs lane index (outcome.Wrong n vif (if a then (if b then report.Told else report.Lost) else report.Quiet))) ≤ 64
    by true true p = one_told s.unread _ (accepting s p)
    by true false p = none_told s.unread room
    by false b p = none_told s.unread room
decided_room s r (verdict.Miss i) lane index room = none_told s.unread room
decided_room s r verdict.NoVif lane index room = none_told s.unread room

judged_room : (s : State) (r : Route) (dev ttl : ℕ) (lane : LaneNo) (index : ℕ) → length s.unread ≤ 64 → length (s.unread ++ told_by s.tables.vifs lane index (judged s r dev ttl)) ≤ 64
judged_room s r dev ttl lane index room = decided_room s r (judge_in s.tables.vifs s.tables.routes r dev ttl) lane index room

-- released packets tell one after another
release_room : (s : State) (r : Route) (ps : List Waiter) → length s.unread ≤ 64 → length (fold after_released s (release s r ps)).unread ≤ 64
release_room s r [] room = room
release_room s r (w ∷ ps) room =
    release_room (reported s w.lane w.index (judged s r w.flow.dev w.flow.ttl)) r ps (judged_room s r w.flow.dev w.flow.ttl w.lane w.index room)

released_room : (limits : Limits) (s : State) (d : DaemonNo) (r : Request) → length s.unread ≤ 64 → length (fold after_released (granted limits s d r) (released_in limits s d r)).unread ≤ 64
released_room limits s d Finish room = omega arith
released_room limits s d (AddMfc c) room = release_room (granted limits s d (AddMfc c)) (made_route s d c) (freed_by s c None) room
released_room limits s d (AddProxy c) room = release_room (granted limits s d (AddProxy c)) (made_route s d c) (freed_by s c (Some c.parent)) room
released_room limits s d r room = room

-- A packet that meets no entry tells nothing, but for the report of a new record.
untold : (vifs : List VifRecord) (lane : LaneNo) (index : ℕ) (limits : Limits) (s : State) (o : Option Awaiting) → told_by vifs lane index (joins limits s o) ≡ []
untold vifs lane index limits s (Some a) = by (nat_le 4 (length a.packets))
  where
    by : (b : Bool) → told_by vifs lane index (if b then outcome.Dropped cause.Packets else outcome.Parked) ≡ []
    by true = refl
    by false = refl
untold vifs lane index limits s None = by (nat_le limits.unresolved (length s.waiting)) (is_none s.owner) (nat_le 64 (length s.unread))
  where
    by : (a b c : Bool) → told_by vifs lane index (if a then outcome.Dropped cause.Entries else (if b then outcome.Dropped cause.NoDaemon else (if c then outcome.Dropped cause.Upcall else outcome.Parked))) ≡ []
    by true b c = refl
    by false true c = refl
    by false false true = refl
    by false false false = refl

unmet_room : (limits : Limits) (s : State) (flow : Flow) (v : Option ℕ) (lane : LaneNo) (index : ℕ) → length s.unread ≤ 64 → length (s.unread ++ told_by s.tables.vifs lane index (unmet limits s flow v)) ≤ 64
unmet_room limits s flow None lane index room = none_told s.unread room
unmet_room limits s flow (Some i) lane index room =
    rw (untold s.tables.vifs lane index limits s (awaiting_of s.waiting flow.src flow.dst)) (none_told s.unread room)

met_room : (limits : Limits) (s : State) (flow : Flow) (o : Option Route) (lane : LaneNo) (index : ℕ) → length s.unread ≤ 64 → length (s.unread ++ told_by s.tables.vifs lane index (outcome_met limits s flow o)) ≤ 64
met_room limits s flow None lane index room = unmet_room limits s flow (vif_on s.tables.vifs flow.dev) lane index room
met_room limits s flow (Some r) lane index room = judged_room s r flow.dev flow.ttl lane index room

slow_room : (limits : Limits) (s : State) (flow : Flow) (o : Outcome) (lane : LaneNo) (index : ℕ) → o ≡ outcome_in limits s flow → length s.unread ≤ 64 → length (s.unread ++ told_by s.tables.vifs lane index o) ≤ 64
slow_room limits s flow o lane index is room =
    subst (λ (x : Outcome). length (s.unread ++ told_by s.tables.vifs lane index x) ≤ 64) (sym is)
    (met_room limits s flow (found_in s.tables.vifs s.tables.routes flow.dev flow.src flow.dst) lane index room)

-- the report of a new record
parked_room : (limits : Limits) (s : State) (flow : Flow) (lane : LaneNo) (index : ℕ) → outcome.Parked ≡ outcome_in limits s flow → length s.unread ≤ 64 → length (s.unread ++ told_by_parked s lane index flow) ≤ 64
parked_room limits s flow lane index is room = by (awaiting_of s.waiting flow.src flow.dst) (parked_joins limits s flow is)
  where
    by : (o : Option Awaiting) → outcome.Parked ≡ joins limits s o → length (s.unread ++ (if is_some o then [] else no_cache (unwrap_or (vif_on s.tables.vifs flow.dev) 0) lane index ∷ [])) ≤ 64
    by None p = one_told s.unread _ (new_room limits s p).unread
    by (Some a) p = none_told s.unread room

unread_step : (limits : Limits) (g : List Entry) (e : Entry) → Agrees limits g e → length (state limits g).unread ≤ 64 → length (step limits (state limits g) e).unread ≤ 64
unread_step limits g (Call d r Good released) a room =
    let s = state limits g in
    subst (λ (ids : List ReleasedId). length (fold after_released (granted limits s d r) ids).unread ≤ 64) (sym (good_released limits g d r released a))
    (released_room limits s d r room)
unread_step limits g (Slow lane index look flow outcome.Parked) a room = parked_room limits (state limits g) flow lane index a.is_outcome room
unread_step limits g (Slow lane index look flow o) a room = slow_room limits (state limits g) flow o lane index a.is_outcome room
unread_step limits g (Recv d (Some m)) a room =
    let fewer : length (drop 1 (state limits g).unread) ≡ length (state limits g).unread - 1 = length-drop 1 (state limits g).unread in
    omega (arith, fewer, room)
unread_step limits g (Recv d None) a room = room
unread_step limits g e a room = room

pub unread_room : (limits : Limits) (h : List Entry) → IsLegal limits h → length (state limits h).unread ≤ 64
unread_room limits h l =
    state_induction limits (λ s. length s.unread ≤ 64) (omega arith) (λ g e legal a room. unread_step limits g e a room) h l
