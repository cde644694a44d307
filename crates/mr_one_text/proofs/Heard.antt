-- The packet of each report that was received in a legal history has a Slow before it.
use Rattle.std.proofs.Common.{◌≡◌, ◌∙◌, ℕ, ◌+◌, ◌==◌, ◌&&◌, Bool, true, false, not, if◌then◌else◌, Option, Some, None, unwrap_or, is_some, List, [], ◌∷◌, ◌++◌, drop, filter, fold, refl, sym, subst, eq-eqb}
use Rattle.std.specs.List.{AllByRecursion}
use Rattle.mr_base.specs.declared.numbers.Addr.{Addr}
use Rattle.mr_base.specs.declared.numbers.DaemonNo.{DaemonNo}
use Rattle.mr_base.specs.declared.numbers.LaneNo.{LaneNo}
use Rattle.mr_base.specs.declared.route.Route.{Route}
use Rattle.mr_base.specs.declared.vif_record.VifRecord.{VifRecord}
use Rattle.mr_model.specs.Answer.{freed_by, made_route, packets_of, release, released_in}
use Rattle.mr_model.specs.Legal.{Agrees, IsLegal, front, message_for}
use Rattle.mr_model.specs.Messages.{no_cache, told_by}
use Rattle.mr_model.specs.Outcome.{judged}
use Rattle.mr_model.specs.State.{State, after_released, granted, is_owner, is_there, reported, state, step, told_by_parked, unread_by, waiting_by}
use Rattle.mr_model.specs.VifList.{has_flag, vif_on}
use Rattle.mr_model.specs.WaitingList.{Awaiting, Waiter, awaiting_of, is_awaiting, park, without_awaiting}
use Rattle.mr_model.specs.declared.entry.Entry.{Entry}
use Rattle.mr_model.specs.declared.entry.Entry.TheVariants.{Call, Slow, Settle, Tick, Recv, EndPhase}
use Rattle.mr_model.specs.declared.entry.ReleasedId.{ReleasedId}
use Rattle.mr_model.specs.declared.flow.Flow.{Flow}
use Rattle.mr_model.specs.declared.limits.Limits.{Limits}
use Rattle.mr_model.specs.declared.message.MessageId.{MessageId}
use Rattle.mr_model.specs.declared.outcome.Outcome.{Outcome}
use Rattle.mr_model.specs.declared.outcome.Outcome.TheVariants as outcome
use Rattle.mr_model.specs.declared.outcome.Report.TheVariants as report
use Rattle.mr_model.specs.declared.reply.Reply.TheVariants as reply
use Rattle.mr_model.specs.declared.request.MfcCtl.{MfcCtl}
use Rattle.mr_model.specs.declared.request.Request.{Request}
use Rattle.mr_model.specs.declared.request.Request.TheVariants.{Finish, Flush, AddMfc, AddProxy}
use Rattle.mr_model.proofs.Induction.{good_released, legal_induction}
use Rattle.mr_model.proofs.Pushing.{state_push}
use Rattle.smc_daemon.specs.Deeds.{slow_flow}

-- the packet has a Slow in the history
abbrev pub IsSlowed : List Entry → LaneNo → ℕ → Type 0
IsSlowed g lane index = is_some (slow_flow g lane index) ≡ true

slowed_by : (b : Bool) (own : Flow) (o p : Option Flow) → (is_some o ≡ true → p ≡ o) → is_some (if b then Some own else o) ≡ true → (if b then Some own else p) ≡ (if b then Some own else o)
slowed_by true own o p more e = refl
slowed_by false own o p more e = more e

-- and the same with more behind it
pub slow_same_behind : (g h : List Entry) (lane : LaneNo) (index : ℕ) → IsSlowed g lane index → slow_flow (g ++ h) lane index ≡ slow_flow g lane index
slow_same_behind [] h lane index e = absurd (cc e)
slow_same_behind (Slow l i look flow o ∷ g) h lane index e =
    slowed_by (l.0 == lane.0 && i == index) flow (slow_flow g lane index) (slow_flow (g ++ h) lane index) (slow_same_behind g h lane index) e
slow_same_behind (Call d r rep released ∷ g) h lane index e = slow_same_behind g h lane index e
slow_same_behind (Settle l rs ∷ g) h lane index e = slow_same_behind g h lane index e
slow_same_behind (Tick d ms ∷ g) h lane index e = slow_same_behind g h lane index e
slow_same_behind (Recv d m ∷ g) h lane index e = slow_same_behind g h lane index e
slow_same_behind (EndPhase ∷ g) h lane index e = slow_same_behind g h lane index e

slowed_on : (g h : List Entry) (lane : LaneNo) (index : ℕ) → IsSlowed g lane index → IsSlowed (g ++ h) lane index
slowed_on g h lane index e = subst (λ (o : Option Flow). is_some o ≡ true) (sym (slow_same_behind g h lane index e)) e

own_by : (b : Bool) (own : Flow) (o : Option Flow) → is_some o ≡ true → is_some (if b then Some own else o) ≡ true
own_by true own o e = refl
own_by false own o e = e

slowed_own : (g : List Entry) (lane : LaneNo) (index look : ℕ) (flow : Flow) (o : Outcome) → IsSlowed (g ++ Slow lane index look flow o ∷ []) lane index
slowed_own [] lane index look flow o = rw (eq-eqb lane.0 lane.0 refl, eq-eqb index index refl) refl
slowed_own (Slow l i look' flow' o' ∷ g) lane index look flow o = own_by (l.0 == lane.0 && i == index) flow' _ (slowed_own g lane index look flow o)
slowed_own (Call d r rep released ∷ g) lane index look flow o = slowed_own g lane index look flow o
slowed_own (Settle l rs ∷ g) lane index look flow o = slowed_own g lane index look flow o
slowed_own (Tick d ms ∷ g) lane index look flow o = slowed_own g lane index look flow o
slowed_own (Recv d m ∷ g) lane index look flow o = slowed_own g lane index look flow o
slowed_own (EndPhase ∷ g) lane index look flow o = slowed_own g lane index look flow o

-- what was received has a Slow
abbrev pub IsHeard : List Entry → Entry → Type 0
IsHeard g (Recv d (Some m)) = IsSlowed g m.lane m.index
IsHeard g e = Unit {0}

-- lists whose packets have a Slow
abbrev AreSlowed : List Entry → List Waiter → Type 0
AreSlowed g ws = AllByRecursion (λ w. IsSlowed g w.lane w.index) ws

abbrev AreWaiting : List Entry → List Awaiting → Type 0
AreWaiting g waiting = AllByRecursion (λ a. AreSlowed g a.packets) waiting

abbrev AreUnread : List Entry → List MessageId → Type 0
AreUnread g ms = AllByRecursion (λ m. IsSlowed g m.lane m.index) ms

abbrev AreReleased : List Entry → List ReleasedId → Type 0
AreReleased g rs = AllByRecursion (λ r. IsSlowed g r.lane r.index) rs

weaker : {A : Type 0} (P Q : A → Type 0) → ((x : A) → P x → Q x) → (xs : List A) → AllByRecursion P xs → AllByRecursion Q xs
weaker P Q w [] a = tt
weaker P Q w (x ∷ xs) a = (w x a.0, weaker P Q w xs a.1)

append_all : {A : Type 0} (P : A → Type 0) (xs ys : List A) → AllByRecursion P xs → AllByRecursion P ys → AllByRecursion P (xs ++ ys)
append_all P [] ys a b = b
append_all P (x ∷ xs) ys a b = (a.0, append_all P xs ys a.1 b)

filter_all : {A : Type 0} (P : A → Type 0) (test : A → Bool) (xs : List A) → AllByRecursion P xs → AllByRecursion P (filter test xs)
filter_all P test [] a = tt
filter_all {A} P test (x ∷ xs) a = by (test x) (filter_all P test xs a.1)
  where
    by : (b : Bool) → AllByRecursion P (filter test xs) → AllByRecursion P (if b then x ∷ filter test xs else filter test xs)
    by true more = (a.0, more)
    by false more = more

drop_all : {A : Type 0} (P : A → Type 0) (xs : List A) → AllByRecursion P xs → AllByRecursion P (drop 1 xs)
drop_all P [] a = tt
drop_all P (x ∷ xs) a = a.1

waiting_on : (g h : List Entry) (waiting : List Awaiting) → AreWaiting g waiting → AreWaiting (g ++ h) waiting
waiting_on g h waiting a =
    weaker (λ (x : Awaiting). AreSlowed g x.packets) (λ (x : Awaiting). AreSlowed (g ++ h) x.packets)
    (λ x b. weaker (λ (w : Waiter). IsSlowed g w.lane w.index) (λ (w : Waiter). IsSlowed (g ++ h) w.lane w.index) (λ w c. slowed_on g h w.lane w.index c) x.packets b) waiting a

unread_on : (g h : List Entry) (ms : List MessageId) → AreUnread g ms → AreUnread (g ++ h) ms
unread_on g h ms a = weaker (λ (m : MessageId). IsSlowed g m.lane m.index) (λ (m : MessageId). IsSlowed (g ++ h) m.lane m.index) (λ m b. slowed_on g h m.lane m.index b) ms a

park_waits : (g : List Entry) (waiting : List Awaiting) (now : ℕ) (w : Waiter) → AreWaiting g waiting → IsSlowed g w.lane w.index → AreWaiting g (park waiting now w)
park_waits g [] now w a one = ((one, tt), tt)
park_waits g (x ∷ xs) now w a one = by (is_awaiting w.flow.src w.flow.dst x) (park_waits g xs now w a.1 one)
  where
    by : (b : Bool) → AreWaiting g (park xs now w) → AreWaiting g (if b then record x { packets = x.packets ++ w ∷ [] } ∷ xs else x ∷ park xs now w)
    by true more = (append_all (λ (v : Waiter). IsSlowed g v.lane v.index) x.packets (w ∷ []) a.0 (one, tt), a.1)
    by false more = (a.0, more)

told_unread : (g : List Entry) (vifs : List VifRecord) (lane : LaneNo) (index : ℕ) (o : Outcome) → IsSlowed g lane index → AreUnread g (told_by vifs lane index o)
told_unread g vifs lane index (outcome.Forward n input outs) e = tt
told_unread g vifs lane index (outcome.Register n input outs false) e = tt
told_unread g vifs lane index (outcome.Register n input outs true) e = (e, tt)
told_unread g vifs lane index (outcome.Wrong n vif report.Quiet) e = tt
told_unread g vifs lane index (outcome.Wrong n vif report.Lost) e = tt
told_unread g vifs lane index (outcome.Wrong n vif report.Told) e = (e, tt)
told_unread g vifs lane index outcome.Parked e = tt
told_unread g vifs lane index (outcome.Dropped cause) e = tt

-- packets that a call releases waited before
freed_slowed : (g : List Entry) (waiting : List Awaiting) (src dst : Addr) → AreWaiting g waiting → AreSlowed g (packets_of (awaiting_of waiting src dst))
freed_slowed g [] src dst a = tt
freed_slowed g (x ∷ xs) src dst a = by (is_awaiting src dst x) (freed_slowed g xs src dst a.1)
  where
    by : (b : Bool) → AreSlowed g (packets_of (awaiting_of xs src dst)) → AreSlowed g (packets_of (if b then Some x else awaiting_of xs src dst))
    by true more = a.0
    by false more = more

freed_by_slowed : (g : List Entry) (s : State) (c : MfcCtl) (parent : Option ℕ) → AreWaiting g s.waiting → AreSlowed g (freed_by s c parent)
freed_by_slowed g s c parent a = by (is_there s c parent)
  where
    by : (b : Bool) → AreSlowed g (if b then [] else packets_of (awaiting_of s.waiting c.src c.dst))
    by true = tt
    by false = freed_slowed g s.waiting c.src c.dst a

release_slowed : (g : List Entry) (s : State) (r : Route) (ws : List Waiter) → AreSlowed g ws → AreReleased g (release s r ws)
release_slowed g s r [] a = tt
release_slowed g s r (w ∷ ws) a = (a.0, release_slowed g (reported s w.lane w.index (judged s r w.flow.dev w.flow.ttl)) r ws a.1)

released_slowed : (g : List Entry) (limits : Limits) (s : State) (d : DaemonNo) (r : Request) → AreWaiting g s.waiting → AreReleased g (released_in limits s d r)
released_slowed g limits s d (AddMfc c) a = release_slowed g (granted limits s d (AddMfc c)) (made_route s d c) (freed_by s c None) (freed_by_slowed g s c None a)
released_slowed g limits s d (AddProxy c) a = release_slowed g (granted limits s d (AddProxy c)) (made_route s d c) (freed_by s c (Some c.parent)) (freed_by_slowed g s c (Some c.parent) a)
released_slowed g limits s d r a = tt

-- what waits and what is unread
record AreKnown (g : List Entry) (s : State) : Type 0 where
  pub waiting : AreWaiting g s.waiting
  pub unread : AreUnread g s.unread

reported_known : (g : List Entry) (s : State) (lane : LaneNo) (index : ℕ) (o : Outcome) → IsSlowed g lane index → AreKnown g s → AreKnown g (reported s lane index o)
reported_known g s lane index o e k = record {
  waiting = k.waiting;
  unread = append_all (λ (m : MessageId). IsSlowed g m.lane m.index) s.unread (told_by s.tables.vifs lane index o) k.unread (told_unread g s.tables.vifs lane index o e);
}

released_known : (g : List Entry) (s : State) (rs : List ReleasedId) → AreReleased g rs → AreKnown g s → AreKnown g (fold after_released s rs)
released_known g s [] a k = k
released_known g s (r ∷ rs) a k = released_known g (after_released s r) rs a.1 (reported_known g s r.lane r.index r.outcome a.0 k)

if_waits : (g : List Entry) (b : Bool) (xs ys : List Awaiting) → AreWaiting g xs → AreWaiting g ys → AreWaiting g (if b then xs else ys)
if_waits g true xs ys a c = a
if_waits g false xs ys a c = c

waiting_known : (g : List Entry) (s : State) (r : Request) → AreWaiting g s.waiting → AreWaiting g (waiting_by s r)
waiting_known g s (AddMfc c) a = if_waits g (is_there s c None) s.waiting (without_awaiting s.waiting c.src c.dst) a (filter_all (λ (x : Awaiting). AreSlowed g x.packets) (λ x. not (is_awaiting c.src c.dst x)) s.waiting a)
waiting_known g s (AddProxy c) a =
    if_waits g (is_there s c (Some c.parent)) s.waiting (without_awaiting s.waiting c.src c.dst) a (filter_all (λ (x : Awaiting). AreSlowed g x.packets) (λ x. not (is_awaiting c.src c.dst x)) s.waiting a)
waiting_known g s Finish a = tt
waiting_known g s (Flush bits) a = if_waits g (has_flag bits 1) [] s.waiting tt a
waiting_known g s r a = a

unread_known : (g : List Entry) (unread : List MessageId) (r : Request) → AreUnread g unread → AreUnread g (unread_by unread r)
unread_known g unread Finish a = tt
unread_known g unread r a = a

if_unread : (g : List Entry) (b : Bool) (ms : List MessageId) → AreUnread g ms → AreUnread g (if b then [] else ms)
if_unread g true ms a = tt
if_unread g false ms a = a

arrived_known : (g : List Entry) (limits : Limits) (s : State) (lane : LaneNo) (index look : ℕ) (flow : Flow) (o : Outcome) → AreKnown g s → IsSlowed g lane index → AreKnown g (step limits s (Slow lane index look flow o))
arrived_known g limits s lane index look flow outcome.Parked k e = record {
  waiting = park_waits g s.waiting s.now (record { lane = lane; index = index; flow = flow }) k.waiting e;
  unread = append_all (λ (m : MessageId). IsSlowed g m.lane m.index) s.unread (told_by_parked s lane index flow) k.unread
      (if_unread g (is_some (awaiting_of s.waiting flow.src flow.dst)) (no_cache (unwrap_or (vif_on s.tables.vifs flow.dev) 0) lane index ∷ []) (e, tt));
}
arrived_known g limits s lane index look flow (outcome.Forward n input outs) k e = let m = reported_known g s lane index (outcome.Forward n input outs) e k in record { waiting = m.waiting; unread = m.unread }
arrived_known g limits s lane index look flow (outcome.Register n input outs told) k e =
    let m = reported_known g s lane index (outcome.Register n input outs told) e k in record { waiting = m.waiting; unread = m.unread }
arrived_known g limits s lane index look flow (outcome.Wrong n vif r) k e = let m = reported_known g s lane index (outcome.Wrong n vif r) e k in record { waiting = m.waiting; unread = m.unread }
arrived_known g limits s lane index look flow (outcome.Dropped cause) k e = let m = reported_known g s lane index (outcome.Dropped cause) e k in record { waiting = m.waiting; unread = m.unread }

more_known : (g h : List Entry) (s : State) → AreKnown g s → AreKnown (g ++ h) s
more_known g h s k = record { waiting = waiting_on g h s.waiting k.waiting; unread = unread_on g h s.unread k.unread }

known_step : (limits : Limits) (g : List Entry) (e : Entry) → Agrees limits g e → AreKnown g (state limits g) → AreKnown (g ++ e ∷ []) (step limits (state limits g) e)
known_step limits g (Call d r reply.Good released) a k =
    let s = state limits g in
    let all : AreReleased g released = subst (AreReleased g) (sym (good_released limits g d r released a)) (released_slowed g limits s d r k.waiting) in
    let m = released_known g (granted limits s d r) released all (record { waiting = waiting_known g s r k.waiting; unread = unread_known g s.unread r k.unread }) in
    let n = more_known g (Call d r reply.Good released ∷ []) (fold after_released (granted limits s d r) released) m in
    record { waiting = n.waiting; unread = n.unread }
known_step limits g (Slow lane index look flow o) a k =
    arrived_known (g ++ Slow lane index look flow o ∷ []) limits (state limits g) lane index look flow o (more_known g (Slow lane index look flow o ∷ []) (state limits g) k) (slowed_own g lane index look flow o)
known_step limits g (Tick d ms) a k =
    let n = more_known g (Tick d ms ∷ []) (state limits g) k in
    record { waiting = filter_all (λ (x : Awaiting). AreSlowed (g ++ Tick d ms ∷ []) x.packets) _ (state limits g).waiting n.waiting; unread = n.unread }
known_step limits g (Recv d (Some m)) a k =
    let n = more_known g (Recv d (Some m) ∷ []) (state limits g) k in
    record { waiting = n.waiting; unread = drop_all (λ (x : MessageId). IsSlowed (g ++ Recv d (Some m) ∷ []) x.lane x.index) (state limits g).unread n.unread }
known_step limits g (Recv d None) a k = let n = more_known g (Recv d None ∷ []) (state limits g) k in record { waiting = n.waiting; unread = n.unread }
known_step limits g (Settle l rs) a k = let n = more_known g (Settle l rs ∷ []) (state limits g) k in record { waiting = n.waiting; unread = n.unread }
known_step limits g EndPhase a k = let n = more_known g (EndPhase ∷ []) (state limits g) k in record { waiting = n.waiting; unread = n.unread }
known_step limits g (Call d r reply released) a k = let n = more_known g (Call d r reply released ∷ []) (state limits g) k in record { waiting = n.waiting; unread = n.unread }

-- a message that is given is unread
front_slowed : (g : List Entry) (ms : List MessageId) (m : MessageId) → AreUnread g ms → Some m ≡ front ms → IsSlowed g m.lane m.index
front_slowed g [] m a e = absurd (cc e)
front_slowed g (x ∷ xs) m a e =
    let same : x ≡ m = cc e in
    subst (λ (y : MessageId). IsSlowed g y.lane y.index) same a.0

given_slowed : (g : List Entry) (s : State) (d : DaemonNo) (m : MessageId) → AreUnread g s.unread → Some m ≡ message_for s d → IsSlowed g m.lane m.index
given_slowed g s d m a e = by (is_owner s d) refl
  where
    by : (b : Bool) → is_owner s d ≡ b → IsSlowed g m.lane m.index
    by true f =
        let is : message_for s d ≡ front s.unread = rw f refl in
        front_slowed g s.unread m a (e ∙ is)
    by false f =
        let is : message_for s d ≡ None = rw f refl in
        absurd (cc (e ∙ is))

heard_one : (limits : Limits) (g : List Entry) (e : Entry) → Agrees limits g e → AreKnown g (state limits g) → IsHeard g e
heard_one limits g (Recv d (Some m)) a k = given_slowed g (state limits g) d m k.unread a.gives
heard_one limits g (Recv d None) a k = tt
heard_one limits g (Call d r rep released) a k = tt
heard_one limits g (Slow l i look flow o) a k = tt
heard_one limits g (Settle l rs) a k = tt
heard_one limits g (Tick d ms) a k = tt
heard_one limits g EndPhase a k = tt

heard_on : (g h : List Entry) (e : Entry) → IsHeard g e → IsHeard (g ++ h) e
heard_on g h (Recv d (Some m)) a = slowed_on g h m.lane m.index a
heard_on g h (Recv d None) a = tt
heard_on g h (Call d r rep released) a = tt
heard_on g h (Slow l i look flow o) a = tt
heard_on g h (Settle l rs) a = tt
heard_on g h (Tick d ms) a = tt
heard_on g h EndPhase a = tt

record Hears (limits : Limits) (g : List Entry) : Type 0 where
  pub known : AreKnown g (state limits g)
  pub heard : AllByRecursion (IsHeard g) g

hears_push : (limits : Limits) (g : List Entry) (e : Entry) → Agrees limits g e → Hears limits g → Hears limits (g ++ e ∷ [])
hears_push limits g e a k = record {
  known = subst (AreKnown (g ++ e ∷ [])) (sym (state_push limits g e)) (known_step limits g e a k.known);
  heard = append_all (IsHeard (g ++ e ∷ [])) g (e ∷ []) (weaker (IsHeard g) (IsHeard (g ++ e ∷ [])) (λ x b. heard_on g (e ∷ []) x b) g k.heard) (heard_on g (e ∷ []) e (heard_one limits g e a k.known), tt);
}

pub legal_hears : (limits : Limits) (h : List Entry) → IsLegal limits h → AllByRecursion (IsHeard h) h
legal_hears limits h legal =
    (legal_induction limits (Hears limits) (record { known = record { waiting = tt; unread = tt }; heard = tt }) (λ g e l a k. hears_push limits g e a k) h legal).heard
