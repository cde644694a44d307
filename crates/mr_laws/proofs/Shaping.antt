-- The shape of the waiting list after one more entry.
use Rattle.std.proofs.Common.{◌≡◌, ℕ, ◌+◌, ◌-◌, ◌<◌, ◌≤◌, ◌==◌, nat_lt, nat_le, Bool, true, false, if◌then◌else◌, Option, Some, None, is_none, is_some, List, [], ◌∷◌, ◌++◌, length, filter, refl, sym, ap, subst, ◌∙◌, arith, length-append}
use Rattle.std.proofs.lemmas.Bool.{and_parts, ltb-true, leb-false}
use Rattle.std.specs.List.{AllByRecursion}
use Rattle.mr_base.specs.declared.route.Route.{Route}
use Rattle.mr_model.specs.declared.entry.Entry.{Entry}
use Rattle.mr_model.specs.declared.entry.Entry.TheVariants.{Tick}
use Rattle.mr_model.specs.declared.flow.Flow.{Flow}
use Rattle.mr_model.specs.declared.limits.Limits.{Limits}
use Rattle.mr_model.specs.declared.outcome.Cause.TheVariants as cause
use Rattle.mr_model.specs.declared.outcome.Outcome.TheVariants as outcome
use Rattle.mr_model.specs.Found.{found_in}
use Rattle.mr_model.specs.Legal.{Agrees, IsLegal}
use Rattle.mr_model.specs.Now.{milliseconds}
use Rattle.mr_model.specs.Outcome.{parks_new, joins, unmet, outcome_met, outcome_in}
use Rattle.mr_model.specs.State.{State, state, step}
use Rattle.mr_model.specs.VifList.{vif_on}
use Rattle.mr_model.specs.WaitingList.{Waiter, Awaiting, is_awaiting, awaiting_of, park}
use Rattle.mr_model.proofs.Induction.{state_induction, same_addr}
use Rattle.mr_model.proofs.Stepping.{step_now}
use Rattle.mr_laws.specs.Shape.{HasPackets, IsOf, HasItsOwn, MomentsRise, IsYoung}
use Rattle.mr_laws.proofs.Serving.{met_decided}
use Rattle.mr_laws.proofs.WaitingSteps.{waiting_step, waiting_induction}

pub all_filter : {X : Type 0} (P : X → Type 0) (test : X → Bool) (xs : List X) → AllByRecursion P xs → AllByRecursion P (filter test xs)
all_filter P test [] p = tt
all_filter {X} P test (x ∷ xs) p =
    let more = all_filter P test xs p.1 in
    elim (test x) as (λ b. AllByRecursion P (if b then x ∷ filter test xs else filter test xs)) [
      | true ↦ (p.0, more)
      | false ↦ more
    ]

pub all_push : {X : Type 0} (P : X → Type 0) (xs : List X) (x : X) → AllByRecursion P xs → P x → AllByRecursion P (xs ++ x ∷ [])
all_push P [] x p q = (q, tt)
all_push P (y ∷ ys) x p q = (p.0, all_push P ys x p.1 q)

-- A packet that is parked joins its record, or finds room for a new one.
unmet_joins : (limits : Limits) (s : State) (flow : Flow) (v : Option ℕ) → outcome.Parked ≡ unmet limits s flow v → outcome.Parked ≡ joins limits s (awaiting_of s.waiting flow.src flow.dst)
unmet_joins limits s flow None p = cc
unmet_joins limits s flow (Some i) p = p

met_joins : (limits : Limits) (s : State) (flow : Flow) (o : Option Route) → outcome.Parked ≡ outcome_met limits s flow o → outcome.Parked ≡ joins limits s (awaiting_of s.waiting flow.src flow.dst)
met_joins limits s flow None p = unmet_joins limits s flow (vif_on s.tables.vifs flow.dev) p
met_joins limits s flow (Some r) p = absurd (met_decided s r _ _ _ _ _ _ p)

pub parked_joins : (limits : Limits) (s : State) (flow : Flow) → outcome.Parked ≡ outcome_in limits s flow → outcome.Parked ≡ joins limits s (awaiting_of s.waiting flow.src flow.dst)
parked_joins limits s flow p = met_joins limits s flow (found_in s.tables.vifs s.tables.routes flow.dev flow.src flow.dst) p

pub joined_room : (limits : Limits) (s : State) (a : Awaiting) → outcome.Parked ≡ joins limits s (Some a) → length a.packets < 4
joined_room limits s a p = by (nat_le 4 (length a.packets)) refl p
  where
    by : (b : Bool) → nat_le 4 (length a.packets) ≡ b → outcome.Parked ≡ (if b then outcome.Dropped cause.Packets else outcome.Parked) → length a.packets < 4
    by true q r = cc
    by false q r = leb-false 4 (length a.packets) q

pub record NewRoom (limits : Limits) (s : State) : Type 0 where
  pub entries : length s.waiting < limits.unresolved
  pub unread : length s.unread < 64

pub new_room : (limits : Limits) (s : State) → outcome.Parked ≡ parks_new limits s → NewRoom limits s
new_room limits s p = by (nat_le limits.unresolved (length s.waiting)) (is_none s.owner) (nat_le 64 (length s.unread)) refl refl p
  where
    by : (a b c : Bool) → nat_le limits.unresolved (length s.waiting) ≡ a → nat_le 64 (length s.unread) ≡ c → outcome.Parked ≡ (if a then outcome.Dropped cause.Entries else (if b then outcome.Dropped cause.NoDaemon else (if c then outcome.Dropped cause.Upcall else outcome.Parked))) → NewRoom limits s
    by true b c q r x = cc
    by false true c q r x = cc
    by false false true q r x = cc
    by false false false q r x = record { entries = leb-false limits.unresolved (length s.waiting) q; unread = leb-false 64 (length s.unread) r }

-- 1 to 4 packets
packets_park : (now : ℕ) (w : Waiter) (ws : List Awaiting) → ((a : Awaiting) → awaiting_of ws w.flow.src w.flow.dst ≡ Some a → length a.packets < 4) → AllByRecursion HasPackets ws → AllByRecursion HasPackets (park ws now w)
packets_park now w [] room p = ((omega arith, omega arith), tt)
packets_park now w (a ∷ ws) room p = by (is_awaiting w.flow.src w.flow.dst a) room (λ r. packets_park now w ws r p.1)
  where
    by : (b : Bool) → ((x : Awaiting) → (if b then Some a else awaiting_of ws w.flow.src w.flow.dst) ≡ Some x → length x.packets < 4) → (((x : Awaiting) → awaiting_of ws w.flow.src w.flow.dst ≡ Some x → length x.packets < 4) → AllByRecursion HasPackets (park ws now w)) → AllByRecursion HasPackets (if b then record a { packets = a.packets ++ w ∷ [] } ∷ ws else a ∷ park ws now w)
    by true r more =
        let one : length a.packets < 4 = r a refl in
        let longer : length (a.packets ++ w ∷ []) ≡ length a.packets + 1 = length-append a.packets (w ∷ []) in
        ((omega (arith, longer), omega (arith, longer, one)), p.1)
    by false r more = (p.0, more r)

pub packets_shape : (limits : Limits) (h : List Entry) → IsLegal limits h → AllByRecursion HasPackets (state limits h).waiting
packets_shape limits h l =
    waiting_induction limits (λ ws. AllByRecursion HasPackets ws) tt (λ test ws p. all_filter HasPackets test ws p)
    (λ g legal lane index look flow a p.
    let joined = parked_joins limits (state limits g) flow a.is_outcome in
    packets_park (state limits g).now (record { lane = lane; index = index; flow = flow }) (state limits g).waiting
    (λ x q. joined_room limits (state limits g) x (joined ∙ ap (λ (o : Option Awaiting). joins limits (state limits g) o) q)) p) h l

-- of the record's source and group
own_park : (now : ℕ) (w : Waiter) (ws : List Awaiting) → AllByRecursion HasItsOwn ws → AllByRecursion HasItsOwn (park ws now w)
own_park now w [] p = (((refl, refl), tt), tt)
own_park now w (a ∷ ws) p = by (is_awaiting w.flow.src w.flow.dst a) refl (own_park now w ws p.1)
  where
    by : (b : Bool) → is_awaiting w.flow.src w.flow.dst a ≡ b → AllByRecursion HasItsOwn (park ws now w) → AllByRecursion HasItsOwn (if b then record a { packets = a.packets ++ w ∷ [] } ∷ ws else a ∷ park ws now w)
    by true q more =
        let parts = and_parts (a.src.0 == w.flow.src.0) (a.dst.0 == w.flow.dst.0) q in
        (all_push (IsOf a) a.packets w p.0 (sym (same_addr a.src w.flow.src parts.0), sym (same_addr a.dst w.flow.dst parts.1)), p.1)
    by false q more = (p.0, more)

pub own_shape : (limits : Limits) (h : List Entry) → IsLegal limits h → AllByRecursion HasItsOwn (state limits h).waiting
own_shape limits h l =
    waiting_induction limits (λ ws. AllByRecursion HasItsOwn ws) tt (λ test ws p. all_filter HasItsOwn test ws p)
    (λ g legal lane index look flow a p.
    own_park (state limits g).now (record { lane = lane; index = index; flow = flow }) (state limits g).waiting p) h l

-- room for the records
filter_length : (test : Awaiting → Bool) (ws : List Awaiting) → length (filter test ws) ≤ length ws
filter_length test [] = omega arith
filter_length test (a ∷ ws) =
    let more : length (filter test ws) ≤ length ws = filter_length test ws in
    elim (test a) as (λ b. length (if b then a ∷ filter test ws else filter test ws) ≤ length (a ∷ ws)) [
      | true ↦ omega (arith, more)
      | false ↦ omega (arith, more)
    ]

park_length : (now : ℕ) (w : Waiter) (ws : List Awaiting) → length (park ws now w) ≡ length ws + (if is_some (awaiting_of ws w.flow.src w.flow.dst) then 0 else 1)
park_length now w [] = omega arith
park_length now w (a ∷ ws) =
    let more : length (park ws now w) ≡ length ws + (if is_some (awaiting_of ws w.flow.src w.flow.dst) then 0 else 1) = park_length now w ws in
    elim (is_awaiting w.flow.src w.flow.dst a) as (λ b. length (if b then record a { packets = a.packets ++ w ∷ [] } ∷ ws else a ∷ park ws now w) ≡ length (a ∷ ws) + (if is_some (if b then Some a else awaiting_of ws w.flow.src w.flow.dst) then 0 else 1)) [
      | true ↦ omega arith
      | false ↦ omega (arith, more)
    ]

parked_room : (limits : Limits) (s : State) (o : Option Awaiting) → length s.waiting ≤ limits.unresolved → outcome.Parked ≡ joins limits s o → length s.waiting + (if is_some o then 0 else 1) ≤ limits.unresolved
parked_room limits s None p q = let room = (new_room limits s q).entries in omega (arith, room)
parked_room limits s (Some a) p q = omega (arith, p)

pub room_shape : (limits : Limits) (h : List Entry) → IsLegal limits h → length (state limits h).waiting ≤ limits.unresolved
room_shape limits h l =
    waiting_induction limits (λ ws. length ws ≤ limits.unresolved) (omega arith)
    (λ test ws p. let less = filter_length test ws in omega (arith, less, p))
    (λ g legal lane index look flow a p.
    let s = state limits g in
    let longer = park_length s.now (record { lane = lane; index = index; flow = flow }) s.waiting in
    let room = parked_room limits s (awaiting_of s.waiting flow.src flow.dst) p (parked_joins limits s flow a.is_outcome) in
    omega (arith, longer, room)) h l

-- moments
rise_below : (m n : ℕ) (ws : List Awaiting) → m ≤ n → MomentsRise n ws → MomentsRise m ws
rise_below m n [] le p = tt
rise_below m n (a ∷ ws) le p = (omega (arith, le, p.0), p.1)

rise_filter : (test : Awaiting → Bool) (m : ℕ) (ws : List Awaiting) → MomentsRise m ws → MomentsRise m (filter test ws)
rise_filter test m [] p = tt
rise_filter test m (a ∷ ws) p =
    let more = rise_filter test a.since ws p.1 in
    elim (test a) as (λ b. MomentsRise m (if b then a ∷ filter test ws else filter test ws)) [
      | true ↦ (p.0, more)
      | false ↦ rise_below m a.since (filter test ws) p.0 more
    ]

rise_park : (now : ℕ) (w : Waiter) (m : ℕ) (ws : List Awaiting) → m ≤ now → AllByRecursion (IsYoung now) ws → MomentsRise m ws → MomentsRise m (park ws now w)
rise_park now w m [] le young p = (le, tt)
rise_park now w m (a ∷ ws) le young p =
    let more = rise_park now w a.since ws young.0.0 young.1 p.1 in
    elim (is_awaiting w.flow.src w.flow.dst a) as (λ b. MomentsRise m (if b then record a { packets = a.packets ++ w ∷ [] } ∷ ws else a ∷ park ws now w)) [
      | true ↦ p
      | false ↦ (p.0, more)
    ]

young_park : (now : ℕ) (w : Waiter) (ws : List Awaiting) → AllByRecursion (IsYoung now) ws → AllByRecursion (IsYoung now) (park ws now w)
young_park now w [] p = ((omega arith, omega arith), tt)
young_park now w (a ∷ ws) p =
    let more = young_park now w ws p.1 in
    elim (is_awaiting w.flow.src w.flow.dst a) as (λ b. AllByRecursion (IsYoung now) (if b then record a { packets = a.packets ++ w ∷ [] } ∷ ws else a ∷ park ws now w)) [
      | true ↦ p
      | false ↦ (p.0, more)
    ]

young_ticked : (now ms : ℕ) (ws : List Awaiting) → AllByRecursion (IsYoung now) ws → AllByRecursion (IsYoung (now + ms)) (filter (λ a. nat_lt (now + ms - a.since) 10000) ws)
young_ticked now ms [] p = tt
young_ticked now ms (a ∷ ws) p = by (nat_lt (now + ms - a.since) 10000) refl (young_ticked now ms ws p.1)
  where
    by : (b : Bool) → nat_lt (now + ms - a.since) 10000 ≡ b → AllByRecursion (IsYoung (now + ms)) (filter (λ a. nat_lt (now + ms - a.since) 10000) ws) → AllByRecursion (IsYoung (now + ms)) (if b then a ∷ filter (λ a. nat_lt (now + ms - a.since) 10000) ws else filter (λ a. nat_lt (now + ms - a.since) 10000) ws)
    by true q more =
        let since : a.since ≤ now = p.0.0 in
        let young : now + ms - a.since < 10000 = ltb-true (now + ms - a.since) 10000 q in
        ((omega (arith, since), omega (arith, since, young)), more)
    by false q more = more

-- the moments are in order, and each record is young
pub record Timely (s : State) : Type 0 where
  pub order : MomentsRise 0 s.waiting
  pub young : AllByRecursion (IsYoung s.now) s.waiting

-- an entry that is no tick leaves the moment
timely_step : (limits : Limits) (g : List Entry) (e : Entry) → milliseconds e ≡ 0 → Agrees limits g e → Timely (state limits g) → Timely (step limits (state limits g) e)
timely_step limits g e still a t =
    let s = state limits g in
    let now : (step limits s e).now ≡ s.now = let moved = step_now limits s e in omega (arith, moved, still) in
    let both = waiting_step limits g e (λ ws. MomentsRise 0 ws × AllByRecursion (IsYoung s.now) ws) (tt, tt)
    (λ test ws p. (rise_filter test 0 ws p.0, all_filter (IsYoung s.now) test ws p.1))
    (λ lane index look flow b p.
    let w : Waiter = record { lane = lane; index = index; flow = flow } in
    (rise_park s.now w 0 s.waiting (omega arith) p.1 p.0, young_park s.now w s.waiting p.1)) a (t.order, t.young) in
    record {
      order = both.0;
      young = subst (λ (n : ℕ). AllByRecursion (IsYoung n) (step limits s e).waiting) (sym now) both.1;
    }

timely_push : (limits : Limits) (g : List Entry) (e : Entry) → Agrees limits g e → Timely (state limits g) → Timely (step limits (state limits g) e)
timely_push limits g (Tick d ms) a t = record {
  order = rise_filter _ 0 (state limits g).waiting t.order;
  young = young_ticked (state limits g).now ms (state limits g).waiting t.young;
}
timely_push limits g e a t = timely_step limits g e refl a t

pub legal_timely : (limits : Limits) (h : List Entry) → IsLegal limits h → Timely (state limits h)
legal_timely limits h l = state_induction limits (λ s. Timely s) (record { order = tt; young = tt }) (λ g e legal a t. timely_push limits g e a t) h l
