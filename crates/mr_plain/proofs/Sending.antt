-- The packets that wait are those of slow entries, whose indexes rise.
use Rattle.std.proofs.Common.{◌≡◌, ℕ, ◌+◌, ◌-◌, ◌<◌, ◌≤◌, ◌==◌, ◌&&◌, ◌||◌, nat_lt, Bool, true, false, not, if◌then◌else◌, Some, None, List, [], ◌∷◌, ◌++◌, filter, fold, refl, sym, ap, ◌∙◌, subst, arith}
use Rattle.std.proofs.lemmas.Bool.{eqb-true}
use Rattle.std.proofs.lemmas.Grind.{common_steps}
use Rattle.std.specs.List.{AllByRecursion}
use Rattle.mr_base.specs.declared.numbers.DaemonNo.{DaemonNo}
use Rattle.mr_base.specs.declared.numbers.LaneNo.{LaneNo}
use Rattle.mr_model.specs.declared.entry.Entry.{Entry}
use Rattle.mr_model.specs.declared.entry.Entry.TheVariants.{Call, Slow, Settle, Tick, Recv}
use Rattle.mr_model.specs.declared.entry.FastRecord.{FastRecord}
use Rattle.mr_model.specs.declared.flow.Flow.{Flow}
use Rattle.mr_model.specs.declared.limits.Limits.{Limits}
use Rattle.mr_model.specs.declared.outcome.Outcome.{Outcome}
use Rattle.mr_model.specs.declared.outcome.Outcome.TheVariants as outcome
use Rattle.mr_model.specs.declared.reply.Reply.TheVariants.{Good}
use Rattle.mr_model.specs.declared.request.Request.{Request}
use Rattle.mr_model.specs.declared.request.Request.TheVariants.{Finish, Flush, AddMfc, AddProxy}
use Rattle.mr_model.specs.Counts.{length_of}
use Rattle.mr_model.specs.Past.{index_after, last_index}
use Rattle.mr_model.specs.State.{State, step, granted, is_there}
use Rattle.mr_model.specs.VifList.{has_flag}
use Rattle.mr_model.specs.WaitingList.{Waiter, Awaiting, is_awaiting, park, without_awaiting}
use Rattle.mr_model.proofs.Induction.{same_lane}
use Rattle.mr_model.proofs.PushingLists.{last_index_push}
use Rattle.mr_model.proofs.Stepping.{released_does}
use Rattle.mr_plain.specs.Following.{Follows, IndexesRise}
use Rattle.mr_plain.specs.Sent.{is_slow_of, has_slow, IsSent, AreSent, IsIndexed}

slow_push : (h : List Entry) (e : Entry) (lane : LaneNo) (index : ℕ) → has_slow (h ++ e ∷ []) lane index ≡ (has_slow h lane index || is_slow_of lane index e)
slow_push [] e lane index = by (is_slow_of lane index e)
  where
    by : (b : Bool) → (b || false) ≡ b
    by true = refl
    by false = refl
slow_push (x ∷ h) e lane index = by (is_slow_of lane index x) (slow_push h e lane index)
  where
    by : (b : Bool) → has_slow (h ++ e ∷ []) lane index ≡ (has_slow h lane index || is_slow_of lane index e)
        → (b || has_slow (h ++ e ∷ []) lane index) ≡ ((b || has_slow h lane index) || is_slow_of lane index e)
    by true more = refl
    by false more = more

slow_stays : (h : List Entry) (e : Entry) (lane : LaneNo) (index : ℕ) → has_slow h lane index ≡ true → has_slow (h ++ e ∷ []) lane index ≡ true
slow_stays h e lane index there = slow_push h e lane index ∙ ap (λ (b : Bool). b || is_slow_of lane index e) there

long_stays : (h : List Entry) (e : Entry) (lane : LaneNo) (index : ℕ) → has_slow h lane index ≡ true → length_of (h ++ e ∷ []) lane index ≡ length_of h lane index
long_stays [] e lane index there = absurd cc
long_stays (Slow l i look flow o ∷ h) e lane index there = by (l.0 == lane.0 && i == index) (long_stays h e lane index) there
  where
    by : (b : Bool) → (has_slow h lane index ≡ true → length_of (h ++ e ∷ []) lane index ≡ length_of h lane index) → (b || has_slow h lane index) ≡ true
        → (if b then flow.length else length_of (h ++ e ∷ []) lane index) ≡ (if b then flow.length else length_of h lane index)
    by true more there = refl
    by false more there = more there
long_stays (x ∷ h) e lane index there = long_stays h e lane index there

itself : (lane : LaneNo) (index : ℕ) → (lane.0 == lane.0 && index == index) ≡ true
itself lane index = grind (arith, common_steps)

long_new : (h : List Entry) (lane : LaneNo) (index look : ℕ) (flow : Flow) (o : Outcome) → has_slow h lane index ≡ false → length_of (h ++ Slow lane index look flow o ∷ []) lane index ≡ flow.length
long_new [] lane index look flow o new = ap (λ (b : Bool). if b then flow.length else 0) (itself lane index)
long_new (Slow l i look' flow' o' ∷ h) lane index look flow o new = by (l.0 == lane.0 && i == index) (long_new h lane index look flow o) new
  where
    by : (b : Bool) → (has_slow h lane index ≡ false → length_of (h ++ Slow lane index look flow o ∷ []) lane index ≡ flow.length) → (b || has_slow h lane index) ≡ false
        → (if b then flow'.length else length_of (h ++ Slow lane index look flow o ∷ []) lane index) ≡ flow.length
    by true more new = absurd cc
    by false more new = more new
long_new (x ∷ h) lane index look flow o new = long_new h lane index look flow o new

sent_stays : (h : List Entry) (e : Entry) (w : Waiter) → IsSent h w → IsSent (h ++ e ∷ []) w
sent_stays h e w sent = record {
  there = slow_stays h e w.lane w.index sent.there;
  long = long_stays h e w.lane w.index sent.there ∙ sent.long;
}

sent_new : (h : List Entry) (lane : LaneNo) (index look : ℕ) (flow : Flow) (o : Outcome) → has_slow h lane index ≡ false
    → IsSent (h ++ Slow lane index look flow o ∷ []) (record { lane = lane; index = index; flow = flow })
sent_new h lane index look flow o new = record {
  there = slow_push h (Slow lane index look flow o) lane index ∙ ap (λ (b : Bool). has_slow h lane index || b) (itself lane index) ∙ last (has_slow h lane index);
  long = long_new h lane index look flow o new;
}
  where
    last : (b : Bool) → (b || true) ≡ true
    last true = refl
    last false = refl

all_weaken : {X : Type 0} (P Q : X → Type 0) → ((x : X) → P x → Q x) → (xs : List X) → AllByRecursion P xs → AllByRecursion Q xs
all_weaken P Q more [] all = tt
all_weaken P Q more (x ∷ xs) all = (more x all.0, all_weaken P Q more xs all.1)

all_push : {X : Type 0} (P : X → Type 0) (xs : List X) (x : X) → AllByRecursion P xs → P x → AllByRecursion P (xs ++ x ∷ [])
all_push P [] x all here = (here, tt)
all_push P (y ∷ xs) x all here = (all.0, all_push P xs x all.1 here)

pub all_part : {X : Type 0} (P : X → Type 0) (test : X → Bool) (xs : List X) → AllByRecursion P xs → AllByRecursion P (filter test xs)
all_part P test [] all = tt
all_part P test (x ∷ xs) all = elim (test x) as (λ b. AllByRecursion P (if b then x ∷ filter test xs else filter test xs)) [
  | true ↦ (all.0, all_part P test xs all.1)
  | false ↦ all_part P test xs all.1
]

are_stays : (h : List Entry) (e : Entry) (ws : List Awaiting) → AreSent h ws → AreSent (h ++ e ∷ []) ws
are_stays h e ws sent =
    all_weaken (λ (a : Awaiting). AllByRecursion (λ (w : Waiter). IsSent h w) a.packets) (λ (a : Awaiting). AllByRecursion (λ (w : Waiter). IsSent (h ++ e ∷ []) w) a.packets)
    (λ a all. all_weaken (λ (w : Waiter). IsSent h w) (λ (w : Waiter). IsSent (h ++ e ∷ []) w) (sent_stays h e) a.packets all) ws sent

are_park : (h : List Entry) (ws : List Awaiting) (now : ℕ) (w : Waiter) → AreSent h ws → IsSent h w → AreSent h (park ws now w)
are_park h [] now w sent here = ((here, tt), tt)
are_park h (a ∷ ws) now w sent here =
    elim (is_awaiting w.flow.src w.flow.dst a) as (λ b. AreSent h (if b then record a { packets = a.packets ++ w ∷ [] } ∷ ws else a ∷ park ws now w)) [
      | true ↦ (all_push (λ (x : Waiter). IsSent h x) a.packets w sent.0 here, sent.1)
      | false ↦ (sent.0, are_park h ws now w sent.1 here)
    ]

are_part : (h : List Entry) (test : Awaiting → Bool) (ws : List Awaiting) → AreSent h ws → AreSent h (filter test ws)
are_part h test ws sent = all_part (λ (a : Awaiting). AllByRecursion (λ (w : Waiter). IsSent h w) a.packets) test ws sent

are_granted : (h : List Entry) (limits : Limits) (s : State) (d : DaemonNo) (r : Request) → AreSent h s.waiting → AreSent h (granted limits s d r).waiting
are_granted h limits s d Finish sent = tt
are_granted h limits s d (Flush bits) sent =
    elim (has_flag bits 1) as (λ b. AreSent h (if b then [] else s.waiting)) [ true ↦ tt | false ↦ sent ]
are_granted h limits s d (AddMfc c) sent =
    elim (is_there s c None) as (λ b. AreSent h (if b then s.waiting else without_awaiting s.waiting c.src c.dst)) [ true ↦ sent | false ↦ are_part h (λ a. not (is_awaiting c.src c.dst a)) s.waiting sent ]
are_granted h limits s d (AddProxy c) sent =
    elim (is_there s c (Some c.parent)) as (λ b. AreSent h (if b then s.waiting else without_awaiting s.waiting c.src c.dst)) [ true ↦ sent | false ↦ are_part h (λ a. not (is_awaiting c.src c.dst a)) s.waiting sent ]
are_granted h limits s d r sent = sent

-- an index above all those of the lane has no slow entry
pub above_none : (h : List Entry) (lane : LaneNo) (index : ℕ) → IsIndexed h → last_index lane h < index → has_slow h lane index ≡ false
above_none h lane index indexed above = by (has_slow h lane index) (indexed lane index)
  where
    by : (b : Bool) → (b ≡ true → index ≤ last_index lane h) → b ≡ false
    by true within = absurd (omega (arith, within refl, above))
    by false within = refl

-- The packets that wait behind one more entry are sent.
pub sent_step : (limits : Limits) (h : List Entry) (s : State) (e : Entry) → IsIndexed h → Follows limits h e → AreSent h s.waiting → AreSent (h ++ e ∷ []) (step limits s e).waiting
sent_step limits h s (Call d r Good released) indexed follows sent =
    are_stays h (Call d r Good released) _
    (subst (λ (ws : List Awaiting). AreSent h ws) (sym (released_does (granted limits s d r) released).waiting) (are_granted h limits s d r sent))
sent_step limits h s (Slow lane index look flow outcome.Parked) indexed follows sent =
    are_park (h ++ Slow lane index look flow outcome.Parked ∷ []) s.waiting s.now (record { lane = lane; index = index; flow = flow })
    (are_stays h (Slow lane index look flow outcome.Parked) s.waiting sent)
    (sent_new h lane index look flow outcome.Parked (above_none h lane index indexed follows.next))
sent_step limits h s (Tick d ms) indexed follows sent = are_stays h (Tick d ms) _ (are_part h (λ a. nat_lt (s.now + ms - a.since) 10000) s.waiting sent)
sent_step limits h s (Recv d None) indexed follows sent = are_stays h (Recv d None) s.waiting sent
sent_step limits h s (Recv d (Some m)) indexed follows sent = are_stays h (Recv d (Some m)) s.waiting sent
sent_step limits h s e indexed follows sent = are_stays h e s.waiting sent

records_rise : (index : ℕ) (rs : List FastRecord) → IndexesRise index rs → index ≤ fold (λ b r. r.index) index rs
records_rise index [] rise = omega arith
records_rise index (r ∷ rs) rise = omega (arith, rise.0, records_rise r.index rs rise.1)

after_rises : (own : Bool) (before after : ℕ) → (own ≡ true → before ≤ after) → before ≤ (if own then after else before)
after_rises true before after p = p refl
after_rises false before after p = omega arith

pub index_rises : (limits : Limits) (h : List Entry) (e : Entry) (lane : LaneNo) → Follows limits h e → last_index lane h ≤ index_after lane (last_index lane h) e
index_rises limits h (Slow l index look flow o) lane follows =
    after_rises (l.0 == lane.0) (last_index lane h) index (λ own.
    subst (λ (m : LaneNo). last_index m h ≤ index) (same_lane l lane own) (omega (arith, follows.next)))
index_rises limits h (Settle l records) lane follows =
    after_rises (l.0 == lane.0) (last_index lane h) _ (λ own.
    subst (λ (m : LaneNo). last_index m h ≤ fold (λ b r. r.index) (last_index m h) records) (same_lane l lane own)
    (records_rise (last_index l h) records follows.rise))
index_rises limits h e lane follows = omega arith

slow_index : (lane : LaneNo) (index before : ℕ) (e : Entry) → is_slow_of lane index e ≡ true → index_after lane before e ≡ index
slow_index lane index before (Slow l i look flow o) is = grind (arith, common_steps, eqb-true)
slow_index lane index before e is = absurd cc

-- The indexes stay up to the last one.
pub indexed_push : (limits : Limits) (h : List Entry) (e : Entry) → IsIndexed h → Follows limits h e → IsIndexed (h ++ e ∷ [])
indexed_push limits h e indexed follows = λ lane index there.
    let after : last_index lane (h ++ e ∷ []) ≡ index_after lane (last_index lane h) e = last_index_push lane h e in
    let rises : last_index lane h ≤ index_after lane (last_index lane h) e = index_rises limits h e lane follows in
    by lane index (has_slow h lane index) (is_slow_of lane index e) refl refl (sym (slow_push h e lane index) ∙ there) after rises
  where
    by : (lane : LaneNo) (index : ℕ) (b c : Bool) → has_slow h lane index ≡ b → is_slow_of lane index e ≡ c → (b || c) ≡ true
        → last_index lane (h ++ e ∷ []) ≡ index_after lane (last_index lane h) e → last_index lane h ≤ index_after lane (last_index lane h) e
        → index ≤ last_index lane (h ++ e ∷ [])
    by lane index true c old new there after rises =
        let within : index ≤ last_index lane h = indexed lane index old in
        omega (arith, within, after, rises)
    by lane index false true old new there after rises =
        let is : index_after lane (last_index lane h) e ≡ index = slow_index lane index (last_index lane h) e new in
        omega (arith, is, after)
    by lane index false false old new there after rises = absurd cc
