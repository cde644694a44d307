-- What one entry that agrees does to a packet: it leaves it as it is, takes it from the waiting list with one fate, or parks it.
use Rattle.std.proofs.Common.{◌≡◌, ℕ, ◌+◌, ◌-◌, ◌<◌, ◌≤◌, ◌==◌, ◌&&◌, nat_lt, Bool, true, false, not, if◌then◌else◌, Some, None, List, [], ◌∷◌, ◌++◌, length, refl, ap, subst, ◌∙◌, ◌⊎◌, inl, inr, arith}
use Rattle.std.proofs.lemmas.Bool.{cases_lt, lt-ltb, le-ltb, and_parts, eqb-true}
use Rattle.mr_base.specs.declared.numbers.Addr.{Addr}
use Rattle.mr_base.specs.declared.numbers.DaemonNo.{DaemonNo}
use Rattle.mr_base.specs.declared.numbers.LaneNo.{LaneNo}
use Rattle.mr_base.specs.declared.route.Route.{Route}
use Rattle.mr_model.specs.declared.ending.Fate.{Fate}
use Rattle.mr_model.specs.declared.ending.Fate.TheVariants.{Released, Expired, Flushed}
use Rattle.mr_model.specs.declared.entry.Entry.{Entry}
use Rattle.mr_model.specs.declared.entry.Entry.TheVariants.{Call, Slow, Tick, Recv}
use Rattle.mr_model.specs.declared.entry.ReleasedId.{ReleasedId}
use Rattle.mr_model.specs.declared.flow.Flow.{Flow}
use Rattle.mr_model.specs.declared.limits.Limits.{Limits}
use Rattle.mr_model.specs.declared.outcome.Outcome.TheVariants as outcome
use Rattle.mr_model.specs.declared.reply.Reply.{Reply}
use Rattle.mr_model.specs.declared.reply.Reply.TheVariants.{Good}
use Rattle.mr_model.specs.declared.request.Request.{Request}
use Rattle.mr_model.specs.declared.request.Request.TheVariants.{Finish, Flush, AddMfc, AddProxy}
use Rattle.mr_model.specs.Answer.{release, packets_of, made_route}
use Rattle.mr_model.specs.Fate.{names, releases, expires, flushes, FateBy, fate_in, parks}
use Rattle.mr_model.specs.Legal.{Agrees, CallAgrees}
use Rattle.mr_model.specs.Past.{last_index}
use Rattle.mr_model.specs.State.{State, state, step, granted, is_there}
use Rattle.mr_model.specs.VifList.{has_flag}
use Rattle.mr_model.specs.Waiting.{waiting}
use Rattle.mr_model.specs.WaitingList.{Awaiting, Waiter, is_awaiting, awaiting_of, without_awaiting, is_waiting}
use Rattle.mr_model.proofs.Induction.{good_released, same_lane}
use Rattle.mr_model.proofs.Pushing.{state_push}
use Rattle.mr_model.proofs.PushingLists.{last_index_push}
use Rattle.mr_model.proofs.Stepping.{released_does}
use Rattle.mr_laws.specs.Shape.{KeysDiffer}
use Rattle.mr_laws.proofs.Counting.{one, times, each, waiting_times, times_filter, times_split, times_park, keyed_times, names_times}

-- how often a packet waits after a history
abbrev pub count : Limits → List Entry → LaneNo → ℕ → ℕ
count limits g lane index = times each lane index (waiting limits g)

pub count_step : (limits : Limits) (g : List Entry) (e : Entry) (lane : LaneNo) (index : ℕ) → count limits (g ++ e ∷ []) lane index ≡ times each lane index (step limits (state limits g) e).waiting
count_step limits g e lane index = ap (λ (s : State). times each lane index s.waiting) (state_push limits g e)

-- the entry leaves the packet as it is
pub record Stays (limits : Limits) (g : List Entry) (e : Entry) (lane : LaneNo) (index : ℕ) : Type 0 where
  pub none : fate_in limits g e lane index ≡ None
  pub same : count limits (g ++ e ∷ []) lane index ≡ count limits g lane index
  pub not_parked : parks e lane index ≡ false

-- the packet waits no longer: the entry is that of its fate
pub record Leaves (limits : Limits) (g : List Entry) (e : Entry) (lane : LaneNo) (index : ℕ) : Type 0 where
  pub fate : Fate
  pub gives : fate_in limits g e lane index ≡ Some fate
  pub by : FateBy limits g e lane index fate
  pub waited : count limits g lane index ≡ 1
  pub gone : count limits (g ++ e ∷ []) lane index ≡ 0
  pub not_parked : parks e lane index ≡ false

-- the entry parks the packet
pub record Comes (limits : Limits) (g : List Entry) (e : Entry) (lane : LaneNo) (index : ℕ) : Type 0 where
  pub none : fate_in limits g e lane index ≡ None
  pub absent : count limits g lane index ≡ 0
  pub waits : count limits (g ++ e ∷ []) lane index ≡ 1
  pub parked : parks e lane index ≡ true
  pub rises : last_index lane g < index
  pub last : last_index lane (g ++ e ∷ []) ≡ index

abbrev pub Moves : Limits → List Entry → Entry → LaneNo → ℕ → Type 0
Moves limits g e lane index = Stays limits g e lane index ⊎ (Leaves limits g e lane index ⊎ Comes limits g e lane index)

-- an entry that none of the three fates is of
pub no_fate : (limits : Limits) (g : List Entry) (e : Entry) (lane : LaneNo) (index : ℕ) → releases e lane index ≡ false → expires limits g e lane index ≡ false → flushes limits g e lane index ≡ false → fate_in limits g e lane index ≡ None
no_fate limits g e lane index p q r = rw (p, q, r) refl

pub released_fate : (limits : Limits) (g : List Entry) (e : Entry) (lane : LaneNo) (index : ℕ) → releases e lane index ≡ true → fate_in limits g e lane index ≡ Some (Released (length g + 1))
released_fate limits g e lane index p = rw p refl

pub expired_fate : (limits : Limits) (g : List Entry) (e : Entry) (lane : LaneNo) (index : ℕ) → releases e lane index ≡ false → expires limits g e lane index ≡ true → fate_in limits g e lane index ≡ Some (Expired (length g + 1))
expired_fate limits g e lane index p q = rw (p, q) refl

pub flushed_fate : (limits : Limits) (g : List Entry) (e : Entry) (lane : LaneNo) (index : ℕ) → releases e lane index ≡ false → expires limits g e lane index ≡ false → flushes limits g e lane index ≡ true → fate_in limits g e lane index ≡ Some (Flushed (length g + 1))
flushed_fate limits g e lane index p q r = rw (p, q, r) refl

-- the waiting list stays
moves_not : (limits : Limits) (g : List Entry) (e : Entry) (lane : LaneNo) (index : ℕ) → fate_in limits g e lane index ≡ None → parks e lane index ≡ false → (step limits (state limits g) e).waiting ≡ waiting limits g → Moves limits g e lane index
moves_not limits g e lane index none not_parked same =
    inl (record {
      none = none;
      same = count_step limits g e lane index ∙ ap (λ (ws : List Awaiting). times each lane index ws) same;
      not_parked = not_parked;
    })

-- all that waits goes
moves_by_flush : (limits : Limits) (g : List Entry) (e : Entry) (lane : LaneNo) (index : ℕ) → count limits g lane index ≤ 1 → releases e lane index ≡ false → expires limits g e lane index ≡ false → flushes limits g e lane index ≡ is_waiting (waiting limits g) lane index → parks e lane index ≡ false → (step limits (state limits g) e).waiting ≡ [] → Moves limits g e lane index
moves_by_flush limits g e lane index once p q r not_parked empty = by (cases_lt 0 (count limits g lane index))
  where
    after : count limits (g ++ e ∷ []) lane index ≡ 0
    after = count_step limits g e lane index ∙ ap (λ (ws : List Awaiting). times each lane index ws) empty

    waits : flushes limits g e lane index ≡ nat_lt 0 (count limits g lane index)
    waits = r ∙ waiting_times lane index (waiting limits g)

    by : (0 < count limits g lane index) ⊎ (count limits g lane index ≤ 0) → Moves limits g e lane index
    by (inl some) =
        let it : flushes limits g e lane index ≡ true = waits ∙ lt-ltb 0 (count limits g lane index) some in
        inr (inl (record {
          fate = Flushed (length g + 1);
          gives = flushed_fate limits g e lane index p q it;
          by = (refl, it);
          waited = omega (arith, once, some);
          gone = after;
          not_parked = not_parked;
        }))
    by (inr none) =
        let it : flushes limits g e lane index ≡ false = waits ∙ le-ltb 0 (count limits g lane index) none in
        inl (record {
          none = no_fate limits g e lane index p q it;
          same = omega (arith, after, none);
          not_parked = not_parked;
        })

-- y of the times at which it waits are released, z are left
moves_by_release : (limits : Limits) (g : List Entry) (e : Entry) (lane : LaneNo) (index y z : ℕ) → count limits g lane index ≤ 1 → releases e lane index ≡ nat_lt 0 y → expires limits g e lane index ≡ false → flushes limits g e lane index ≡ false → parks e lane index ≡ false → y + z ≡ count limits g lane index → count limits (g ++ e ∷ []) lane index ≡ z → Moves limits g e lane index
moves_by_release limits g e lane index y z once p q r not_parked split after = by (cases_lt 0 y)
  where
    by : (0 < y) ⊎ (y ≤ 0) → Moves limits g e lane index
    by (inl some) =
        let it : releases e lane index ≡ true = p ∙ lt-ltb 0 y some in
        inr (inl (record {
          fate = Released (length g + 1);
          gives = released_fate limits g e lane index it;
          by = (refl, it);
          waited = omega (arith, once, some, split);
          gone = omega (arith, once, some, split, after);
          not_parked = not_parked;
        }))
    by (inr none) =
        let it : releases e lane index ≡ false = p ∙ le-ltb 0 y none in
        inl (record {
          none = no_fate limits g e lane index it q r;
          same = omega (arith, none, split, after);
          not_parked = not_parked;
        })

and_not : (b : Bool) → (b && not b) ≡ false
and_not true = refl
and_not false = refl

-- a tick: what has waited for ten seconds goes
moves_by_tick : (limits : Limits) (g : List Entry) (d : DaemonNo) (ms : ℕ) (lane : LaneNo) (index : ℕ) → count limits g lane index ≤ 1 → Moves limits g (Tick d ms) lane index
moves_by_tick limits g d ms lane index once = by (cases_lt (count limits (g ++ Tick d ms ∷ []) lane index) (count limits g lane index))
  where
    lost : expires limits g (Tick d ms) lane index ≡ (nat_lt 0 (count limits g lane index) && not (nat_lt 0 (count limits (g ++ Tick d ms ∷ []) lane index)))
    lost =
        ap (λ (b : Bool). b && not (is_waiting (waiting limits (g ++ Tick d ms ∷ [])) lane index)) (waiting_times lane index (waiting limits g))
        ∙ ap (λ (b : Bool). nat_lt 0 (count limits g lane index) && not b) (waiting_times lane index (waiting limits (g ++ Tick d ms ∷ [])))

    within : count limits (g ++ Tick d ms ∷ []) lane index ≤ count limits g lane index
    within =
        let young : Awaiting → Bool = λ a. nat_lt ((state limits g).now + ms - a.since) 10000 in
        let after : count limits (g ++ Tick d ms ∷ []) lane index ≡ times young lane index (waiting limits g) =
        count_step limits g (Tick d ms) lane index ∙ times_filter young lane index (waiting limits g) in
        let split = times_split young lane index (waiting limits g) in
        omega (arith, after, split)

    by : (count limits (g ++ Tick d ms ∷ []) lane index < count limits g lane index) ⊎ (count limits g lane index ≤ count limits (g ++ Tick d ms ∷ []) lane index) → Moves limits g (Tick d ms) lane index
    by (inl less) =
        let before : nat_lt 0 (count limits g lane index) ≡ true = lt-ltb 0 (count limits g lane index) (omega (arith, less)) in
        let after : nat_lt 0 (count limits (g ++ Tick d ms ∷ []) lane index) ≡ false = le-ltb 0 (count limits (g ++ Tick d ms ∷ []) lane index) (omega (arith, less, once)) in
        let it : expires limits g (Tick d ms) lane index ≡ true = lost ∙ rw (before, after) refl in
        inr (inl (record {
          fate = Expired (length g + 1);
          gives = expired_fate limits g (Tick d ms) lane index refl it;
          by = (refl, it);
          waited = omega (arith, less, once);
          gone = omega (arith, less, once);
          not_parked = refl;
        }))
    by (inr more) =
        let same : count limits (g ++ Tick d ms ∷ []) lane index ≡ count limits g lane index = omega (arith, more, within) in
        let it : expires limits g (Tick d ms) lane index ≡ false =
        lost ∙ ap (λ (n : ℕ). nat_lt 0 (count limits g lane index) && not (nat_lt 0 n)) same ∙ and_not (nat_lt 0 (count limits g lane index)) in
        inl (record {
          none = no_fate limits g (Tick d ms) lane index refl it refl;
          same = same;
          not_parked = refl;
        })

-- nothing is named where nothing is released
pub not_named : (ids : List ReleasedId) (lane : LaneNo) (index : ℕ) → ids ≡ [] → names ids lane index ≡ false
not_named ids lane index p = rw p refl

-- a new entry takes the packets of its source and group, one that changes takes none
moves_by_entry : (limits : Limits) (g : List Entry) (e : Entry) (lane : LaneNo) (index : ℕ) (ids : List ReleasedId) (t : State) (x : Route) (src dst : Addr) (there : Bool) → count limits g lane index ≤ 1 → KeysDiffer (waiting limits g) → releases e lane index ≡ names ids lane index → expires limits g e lane index ≡ false → flushes limits g e lane index ≡ false → parks e lane index ≡ false → ids ≡ release t x (if there then [] else packets_of (awaiting_of (waiting limits g) src dst)) → (step limits (state limits g) e).waiting ≡ (if there then waiting limits g else without_awaiting (waiting limits g) src dst) → Moves limits g e lane index
moves_by_entry limits g e lane index ids t x src dst true once keys named p q not_parked is after =
    moves_not limits g e lane index (no_fate limits g e lane index (named ∙ not_named ids lane index is) p q) not_parked after
moves_by_entry limits g e lane index ids t x src dst false once keys named p q not_parked is after =
    let ws = waiting limits g in
    let these : Awaiting → Bool = is_awaiting src dst in
    let others : Awaiting → Bool = λ a. not (is_awaiting src dst a) in
    let first = packets_of (awaiting_of ws src dst) in
    let all : names ids lane index ≡ nat_lt 0 (times these lane index ws) =
    ap (λ (r : List ReleasedId). names r lane index) is
    ∙ names_times lane index t x first
    ∙ ap (λ (n : ℕ). nat_lt 0 n) (keyed_times src dst lane index ws keys) in
    let left : count limits (g ++ e ∷ []) lane index ≡ times others lane index ws =
    count_step limits g e lane index
    ∙ ap (λ (l : List Awaiting). times each lane index l) after
    ∙ times_filter others lane index ws in
    moves_by_release limits g e lane index (times these lane index ws) (times others lane index ws) once (named ∙ all) p q not_parked
    (times_split these lane index ws) left

-- a good call that takes no packet
moves_by_other_call : (limits : Limits) (g : List Entry) (d : DaemonNo) (r : Request) (ids : List ReleasedId) (lane : LaneNo) (index : ℕ) → flushes limits g (Call d r Good ids) lane index ≡ false → ids ≡ [] → (granted limits (state limits g) d r).waiting ≡ waiting limits g → Moves limits g (Call d r Good ids) lane index
moves_by_other_call limits g d r ids lane index p none same =
    moves_not limits g (Call d r Good ids) lane index
    (no_fate limits g (Call d r Good ids) lane index (not_named ids lane index none) refl p) refl
    ((released_does (granted limits (state limits g) d r) ids).waiting ∙ same)

-- a good call
moves_by_good_call : (limits : Limits) (g : List Entry) (d : DaemonNo) (r : Request) (ids : List ReleasedId) (lane : LaneNo) (index : ℕ) → count limits g lane index ≤ 1 → KeysDiffer (waiting limits g) → CallAgrees limits g d r Good ids → Moves limits g (Call d r Good ids) lane index
moves_by_good_call limits g d Finish ids lane index once keys a =
    moves_by_flush limits g (Call d Finish Good ids) lane index once (not_named ids lane index (good_released limits g d Finish ids a)) refl refl refl
    (released_does (granted limits (state limits g) d Finish) ids).waiting
moves_by_good_call limits g d (Flush bits) ids lane index once keys a = by (has_flag bits 1) refl
  where
    by : (b : Bool) → has_flag bits 1 ≡ b → Moves limits g (Call d (Flush bits) Good ids) lane index
    by true p =
        moves_by_flush limits g (Call d (Flush bits) Good ids) lane index once (not_named ids lane index (good_released limits g d (Flush bits) ids a)) refl
        (ap (λ (b : Bool). b && is_waiting (waiting limits g) lane index) p) refl
        ((released_does (granted limits (state limits g) d (Flush bits)) ids).waiting ∙ ap (λ (b : Bool). if b then [] else waiting limits g) p)
    by false p =
        moves_by_other_call limits g d (Flush bits) ids lane index (ap (λ (b : Bool). b && is_waiting (waiting limits g) lane index) p)
        (good_released limits g d (Flush bits) ids a) (ap (λ (b : Bool). if b then [] else waiting limits g) p)
moves_by_good_call limits g d (AddMfc c) ids lane index once keys a =
    let s = state limits g in
    moves_by_entry limits g (Call d (AddMfc c) Good ids) lane index ids (granted limits s d (AddMfc c)) (made_route s d c) c.src c.dst
    (is_there s c None) once keys refl refl refl refl (good_released limits g d (AddMfc c) ids a)
    (released_does (granted limits s d (AddMfc c)) ids).waiting
moves_by_good_call limits g d (AddProxy c) ids lane index once keys a =
    let s = state limits g in
    moves_by_entry limits g (Call d (AddProxy c) Good ids) lane index ids (granted limits s d (AddProxy c)) (made_route s d c) c.src c.dst
    (is_there s c (Some c.parent)) once keys refl refl refl refl (good_released limits g d (AddProxy c) ids a)
    (released_does (granted limits s d (AddProxy c)) ids).waiting
moves_by_good_call limits g d r ids lane index once keys a =
    moves_by_other_call limits g d r ids lane index refl (good_released limits g d r ids a) refl

not_flushed : (limits : Limits) (g : List Entry) (d : DaemonNo) (reply : Reply) (r : Request) (ids : List ReleasedId) (lane : LaneNo) (index : ℕ) → (reply ≡ Good → ⊥) → flushes limits g (Call d r reply ids) lane index ≡ false
not_flushed limits g d Good r ids lane index bad = absurd (bad refl)
not_flushed limits g d reply Finish ids lane index bad = refl
not_flushed limits g d reply (Flush bits) ids lane index bad = refl
not_flushed limits g d reply r ids lane index bad = refl

moves_by_call : (limits : Limits) (g : List Entry) (d : DaemonNo) (reply : Reply) (r : Request) (ids : List ReleasedId) (lane : LaneNo) (index : ℕ) → count limits g lane index ≤ 1 → KeysDiffer (waiting limits g) → CallAgrees limits g d r reply ids → Moves limits g (Call d r reply ids) lane index
moves_by_call limits g d Good r ids lane index once keys a = moves_by_good_call limits g d r ids lane index once keys a
moves_by_call limits g d reply r ids lane index once keys a =
    moves_not limits g (Call d r reply ids) lane index
    (no_fate limits g (Call d r reply ids) lane index refl refl (not_flushed limits g d reply r ids lane index (λ p. cc))) refl refl

-- a packet is parked; its index is new
moves_by_parking : (limits : Limits) (g : List Entry) (l : LaneNo) (i look : ℕ) (flow : Flow) (lane : LaneNo) (index : ℕ) → (last_index lane g < index → count limits g lane index ≡ 0) → Agrees limits g (Slow l i look flow outcome.Parked) → Moves limits g (Slow l i look flow outcome.Parked) lane index
moves_by_parking limits g l i look flow lane index past a = by (l.0 == lane.0 && i == index) refl
  where
    w : Waiter
    w = record { lane = l; index = i; flow = flow }

    after : count limits (g ++ Slow l i look flow outcome.Parked ∷ []) lane index ≡ one (l.0 == lane.0 && i == index) + count limits g lane index
    after = count_step limits g (Slow l i look flow outcome.Parked) lane index ∙ times_park lane index (state limits g).now w (waiting limits g)

    by : (b : Bool) → (l.0 == lane.0 && i == index) ≡ b → Moves limits g (Slow l i look flow outcome.Parked) lane index
    by true p =
        let parts = and_parts (l.0 == lane.0) (i == index) p in
        let same : i ≡ index = eqb-true i index parts.1 in
        let next : last_index lane g < i = subst (λ (m : LaneNo). last_index m g < i) (same_lane l lane parts.0) a.next in
        let rises : last_index lane g < index = omega (arith, next, same) in
        let absent : count limits g lane index ≡ 0 = past rises in
        let comes : one (l.0 == lane.0 && i == index) ≡ 1 = ap (λ (b : Bool). one b) p in
        inr (inr (record {
          none = refl;
          absent = absent;
          waits = omega (arith, after, absent, comes);
          parked = p;
          rises = rises;
          last = last_index_push lane g (Slow l i look flow outcome.Parked) ∙ ap (λ (b : Bool). if b then i else last_index lane g) parts.0 ∙ same;
        }))
    by false p =
        let other : one (l.0 == lane.0 && i == index) ≡ 0 = ap (λ (b : Bool). one b) p in
        inl (record { none = refl; same = omega (arith, after, other); not_parked = p })

-- Where the packet waits once at most, and not before its index comes, in records of different keys.
pub moves : (limits : Limits) (g : List Entry) (e : Entry) (lane : LaneNo) (index : ℕ) → count limits g lane index ≤ 1 → (last_index lane g < index → count limits g lane index ≡ 0) → KeysDiffer (waiting limits g) → Agrees limits g e → Moves limits g e lane index
moves limits g (Call d r reply ids) lane index once past keys a = moves_by_call limits g d reply r ids lane index once keys a
moves limits g (Slow l i look flow outcome.Parked) lane index once past keys a = moves_by_parking limits g l i look flow lane index past a
moves limits g (Tick d ms) lane index once past keys a = moves_by_tick limits g d ms lane index once
moves limits g (Recv d None) lane index once past keys a = moves_not limits g (Recv d None) lane index refl refl refl
moves limits g (Recv d (Some m)) lane index once past keys a = moves_not limits g (Recv d (Some m)) lane index refl refl refl
moves limits g e lane index once past keys a = moves_not limits g e lane index refl refl refl
