-- What the reports that were received bring, those that are unread would bring, and two for each packet
-- that waits, are at most five for each packet.
use Rattle.std.proofs.Common.{◌≡◌, ℕ, suc, ◌+◌, ◌-◌, ◌*◌, ◌≤◌, nat_lt, Bool, true, false, not, if◌then◌else◌, Option, Some, None, is_some, unwrap_or, List, [], ◌∷◌, ◌++◌, length, drop, fold, flat_map, filter, refl, sym, ap, arith}
use Rattle.std.specs.Prelude.{sum_by}
use Rattle.std.proofs.lemmas.List.{length-append}
use Rattle.std.proofs.lemmas.List.Sums.{sum_by-cons, sum_by-append, sum_by_push}
use Rattle.mr_base.specs.declared.numbers.Addr.{Addr}
use Rattle.mr_base.specs.declared.numbers.DaemonNo.{DaemonNo}
use Rattle.mr_base.specs.declared.numbers.LaneNo.{LaneNo}
use Rattle.mr_base.specs.declared.route.Route.{Route}
use Rattle.mr_base.specs.declared.vif_record.VifRecord.{VifRecord}
use Rattle.mr_model.specs.Answer.{release, released_in, packets_of, freed_by, made_route}
use Rattle.mr_model.specs.Legal.{Agrees, IsLegal, front}
use Rattle.mr_model.specs.Messages.{told_by, no_cache}
use Rattle.mr_model.specs.Outcome.{judged}
use Rattle.mr_model.specs.Past.{packets_in}
use Rattle.mr_model.specs.State.{State, state, step, granted, reported, after_released, is_there, is_owner}
use Rattle.mr_model.specs.VifList.{vif_on, has_flag}
use Rattle.mr_model.specs.WaitingList.{Waiter, Awaiting, is_awaiting, awaiting_of, park, without_awaiting}
use Rattle.mr_model.specs.declared.entry.Entry.{Entry}
use Rattle.mr_model.specs.declared.entry.Entry.TheVariants.{Call, Slow, Tick, Recv}
use Rattle.mr_model.specs.declared.entry.ReleasedId.{ReleasedId}
use Rattle.mr_model.specs.declared.flow.Flow.{Flow}
use Rattle.mr_model.specs.declared.limits.Limits.{Limits}
use Rattle.mr_model.specs.declared.message.MessageId.{MessageId}
use Rattle.mr_model.specs.declared.outcome.Outcome.{Outcome}
use Rattle.mr_model.specs.declared.outcome.Outcome.TheVariants as outcome
use Rattle.mr_model.specs.declared.outcome.Report.TheVariants as report
use Rattle.mr_model.specs.declared.reply.Reply.TheVariants.{Good}
use Rattle.mr_model.specs.declared.request.Request.{Request}
use Rattle.mr_model.specs.declared.request.Request.TheVariants.{Finish, Flush, AddMfc, AddProxy}
use Rattle.mr_model.proofs.Induction.{legal_induction, good_released}
use Rattle.mr_model.proofs.Pushing.{state_push}
use Rattle.mr_model.proofs.Stepping.{released_does}
use Rattle.smc_daemon.specs.Reporting.{brought_by, brought_at, brought_to_all}

-- what these reports would bring
abbrev by_kind : MessageId → ℕ
by_kind m = brought_by m.kind

abbrev brings : List MessageId → ℕ
brings ms = sum_by by_kind ms

-- how many packets wait
abbrev parked : List Awaiting → ℕ
parked [] = 0
parked (a ∷ ws) = length a.packets + parked ws

abbrev held : State → ℕ
held s = brings s.unread + 2 * parked s.waiting

-- A packet that is decided makes one report at most.
told_brings : (vifs : List VifRecord) (lane : LaneNo) (index : ℕ) (o : Outcome) → brings (told_by vifs lane index o) ≤ 1
told_brings vifs lane index (outcome.Forward n input outs) = omega arith
told_brings vifs lane index (outcome.Register n input outs false) = omega arith
told_brings vifs lane index (outcome.Register n input outs true) = omega arith
told_brings vifs lane index (outcome.Wrong n vif report.Quiet) = omega arith
told_brings vifs lane index (outcome.Wrong n vif report.Lost) = omega arith
told_brings vifs lane index (outcome.Wrong n vif report.Told) = omega arith
told_brings vifs lane index outcome.Parked = omega arith
told_brings vifs lane index (outcome.Dropped cause) = omega arith

released_bring : (vifs : List VifRecord) (rs : List ReleasedId) → brings (flat_map (λ x. told_by vifs x.lane x.index x.outcome) rs) ≤ length rs
released_bring vifs [] = omega arith
released_bring vifs (r ∷ rs) =
    let e = sum_by-append by_kind (told_by vifs r.lane r.index r.outcome) (flat_map (λ x. told_by vifs x.lane x.index x.outcome) rs) in
    omega (arith, e, told_brings vifs r.lane r.index r.outcome, released_bring vifs rs)

release_length : (s : State) (r : Route) (ps : List Waiter) → length (release s r ps) ≡ length ps
release_length s r [] = refl
release_length s r (w ∷ ps) = ap suc (release_length (reported s w.lane w.index (judged s r w.flow.dev w.flow.ttl)) r ps)

-- fewer wait
filter_parked : (test : Awaiting → Bool) (ws : List Awaiting) → parked (filter test ws) ≤ parked ws
filter_parked test [] = omega arith
filter_parked test (a ∷ ws) =
    let more = filter_parked test ws in
    elim (test a) as (λ b. parked (if b then a ∷ filter test ws else filter test ws) ≤ length a.packets + parked ws) [
      | true ↦ omega (arith, more)
      | false ↦ omega (arith, more)
    ]

-- those that a new entry takes wait no longer
taken_parked : (src dst : Addr) (ws : List Awaiting) → length (packets_of (awaiting_of ws src dst)) + parked (without_awaiting ws src dst) ≤ parked ws
taken_parked src dst [] = omega arith
taken_parked src dst (a ∷ ws) =
    let more = taken_parked src dst ws in
    let fewer = filter_parked (λ x. not (is_awaiting src dst x)) ws in
    elim (is_awaiting src dst a) as (λ b. length (packets_of (if b then Some a else awaiting_of ws src dst)) + parked (if not b then a ∷ without_awaiting ws src dst else without_awaiting ws src dst) ≤ length a.packets + parked ws) [
      | true ↦ omega (arith, fewer)
      | false ↦ omega (arith, more)
    ]

park_parked : (ws : List Awaiting) (now : ℕ) (w : Waiter) → parked (park ws now w) ≡ parked ws + 1
park_parked [] now w = refl
park_parked (a ∷ ws) now w =
    let more = park_parked ws now w in
    let n = length-append a.packets (w ∷ []) in
    elim (is_awaiting w.flow.src w.flow.dst a) as (λ b. parked (if b then record a { packets = a.packets ++ w ∷ [] } ∷ ws else a ∷ park ws now w) ≡ length a.packets + parked ws + 1) [
      | true ↦ omega (arith, n)
      | false ↦ omega (arith, more)
    ]

made_holds : (b : Bool) (s : State) (src dst : Addr) → length (if b then [] else packets_of (awaiting_of s.waiting src dst)) + parked (if b then s.waiting else without_awaiting s.waiting src dst) ≤ parked s.waiting
made_holds true s src dst = omega arith
made_holds false s src dst = taken_parked src dst s.waiting

-- what a request grants, with one for each packet that it releases
granted_holds : (limits : Limits) (s : State) (d : DaemonNo) (r : Request) → held (granted limits s d r) + length (released_in limits s d r) ≤ held s
granted_holds limits s d Finish = omega arith
granted_holds limits s d (Flush bits) =
    elim (has_flag bits 1) as (λ b. brings s.unread + 2 * parked (if b then [] else s.waiting) + 0 ≤ held s) [ true ↦ omega arith | false ↦ omega arith ]
granted_holds limits s d (AddMfc c) =
    let n = release_length (granted limits s d (AddMfc c)) (made_route s d c) (freed_by s c None) in
    omega (arith, n, made_holds (is_there s c None) s c.src c.dst)
granted_holds limits s d (AddProxy c) =
    let n = release_length (granted limits s d (AddProxy c)) (made_route s d c) (freed_by s c (Some c.parent)) in
    omega (arith, n, made_holds (is_there s c (Some c.parent)) s c.src c.dst)
granted_holds limits s d r = omega arith

called_holds : (limits : Limits) (s : State) (d : DaemonNo) (r : Request) (released : List ReleasedId) → released ≡ released_in limits s d r → held (fold after_released (granted limits s d r) released) ≤ held s
called_holds limits s d r released is =
    let g = granted limits s d r in
    let after = released_does g released in
    let u = ap brings after.unread in
    let w = ap parked after.waiting in
    let e = sum_by-append by_kind g.unread (flat_map (λ x. told_by g.tables.vifs x.lane x.index x.outcome) released) in
    omega (arith, u, w, e, released_bring g.tables.vifs released, ap (λ (l : List ReleasedId). length l) is, granted_holds limits s d r)

parked_holds : (s : State) (lane : LaneNo) (index : ℕ) (flow : Flow) (b : Bool) → brings (s.unread ++ (if b then [] else no_cache (unwrap_or (vif_on s.tables.vifs flow.dev) 0) lane index ∷ [])) ≤ brings s.unread + 3
parked_holds s lane index flow true = omega (arith, sum_by-append by_kind s.unread [])
parked_holds s lane index flow false = omega (arith, sum_by-append by_kind s.unread (no_cache (unwrap_or (vif_on s.tables.vifs flow.dev) 0) lane index ∷ []))

decided_holds : (s : State) (lane : LaneNo) (index : ℕ) (o : Outcome) → held (reported s lane index o) ≤ held s + 1
decided_holds s lane index o =
    omega (arith, sum_by-append by_kind s.unread (told_by s.tables.vifs lane index o), told_brings s.tables.vifs lane index o)

-- the oldest report is taken off
front_holds : (unread : List MessageId) (m : MessageId) → Some m ≡ front unread → by_kind m + brings (drop 1 unread) ≡ brings unread
front_holds [] m is = absurd (cc is)
front_holds (x ∷ unread) m is =
    let same : m ≡ x = cc is in
    rw same (sym (sum_by-cons by_kind x unread))

message_is : (b : Bool) (unread : List MessageId) (m : MessageId) → Some m ≡ elim b as (λ x. Option MessageId) [ false ↦ None | true ↦ front unread ] → Some m ≡ front unread
message_is true unread m is = is
message_is false unread m is = absurd (cc is)

-- what an entry gives and what is held behind it
step_holds : (limits : Limits) (g : List Entry) (e : Entry) → Agrees limits g e → brought_at e + held (step limits (state limits g) e) ≤ held (state limits g) + 5 * packets_in e
step_holds limits g (Call d r Good released) a =
    omega (arith, called_holds limits (state limits g) d r released (good_released limits g d r released a))
step_holds limits g (Slow lane index look flow outcome.Parked) a =
    let s = state limits g in
    omega (arith, parked_holds s lane index flow (is_some (awaiting_of s.waiting flow.src flow.dst)), park_parked s.waiting s.now (record { lane = lane; index = index; flow = flow }))
step_holds limits g (Slow lane index look flow (outcome.Forward n input outs)) a = omega (arith, decided_holds (state limits g) lane index (outcome.Forward n input outs))
step_holds limits g (Slow lane index look flow (outcome.Register n input outs told)) a = omega (arith, decided_holds (state limits g) lane index (outcome.Register n input outs told))
step_holds limits g (Slow lane index look flow (outcome.Wrong n vif told)) a = omega (arith, decided_holds (state limits g) lane index (outcome.Wrong n vif told))
step_holds limits g (Slow lane index look flow (outcome.Dropped cause)) a = omega (arith, decided_holds (state limits g) lane index (outcome.Dropped cause))
step_holds limits g (Tick d ms) a =
    omega (arith, filter_parked (λ x. nat_lt ((state limits g).now + ms - x.since) 10000) (state limits g).waiting)
step_holds limits g (Recv d (Some m)) a =
    let s = state limits g in
    omega (arith, front_holds s.unread m (message_is (is_owner s d) s.unread m a.gives))
step_holds limits g (Recv d None) a = omega arith
step_holds limits g e a = omega arith

abbrev Bounded : Limits → List Entry → Type 0
Bounded limits g = brought_to_all g + held (state limits g) ≤ 5 * sum_by packets_in g

bounded_push : (limits : Limits) (g : List Entry) (e : Entry) → Agrees limits g e → Bounded limits g → Bounded limits (g ++ e ∷ [])
bounded_push limits g e a b =
    let s = ap held (state_push limits g e) in
    omega (arith, s, step_holds limits g e a, b, sum_by_push brought_at g e, sum_by_push packets_in g e)

pub packets_bring : (limits : Limits) (h : List Entry) → IsLegal limits h → brought_to_all h ≤ 5 * sum_by packets_in h
packets_bring limits h l =
    let b : Bounded limits h = legal_induction limits (Bounded limits) (omega arith) (λ g e legal a b. bounded_push limits g e a b) h l in
    omega (arith, b)
