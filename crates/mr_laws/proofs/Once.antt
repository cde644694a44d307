-- No packet is parked, waits or is released twice.
use Rattle.std.proofs.Common.{◌≡◌, ℕ, ◌+◌, ◌<◌, ◌≤◌, ◌==◌, ◌&&◌, Bool, true, false, cond, if◌then◌else◌, Option, Some, None, List, [], ◌∷◌, ◌++◌, count_by, refl, sym, ap, subst, ◌∙◌, inl, inr, arith}
use Rattle.std.proofs.lemmas.List.Sums.{fold_push}
use Rattle.std.proofs.lemmas.List.Recursion.{is_count_by, is_sum_by}
use Rattle.mr_base.specs.declared.numbers.Addr.{Addr}
use Rattle.mr_base.specs.declared.numbers.DaemonNo.{DaemonNo}
use Rattle.mr_base.specs.declared.numbers.LaneNo.{LaneNo}
use Rattle.mr_base.specs.declared.route.Route.{Route}
use Rattle.mr_model.specs.declared.entry.Entry.{Entry}
use Rattle.mr_model.specs.declared.entry.Entry.TheVariants.{Call}
use Rattle.mr_model.specs.declared.entry.ReleasedId.{ReleasedId}
use Rattle.mr_model.specs.declared.limits.Limits.{Limits}
use Rattle.mr_model.specs.declared.reply.Reply.{Reply}
use Rattle.mr_model.specs.declared.reply.Reply.TheVariants.{Good}
use Rattle.mr_model.specs.declared.request.Request.{Request}
use Rattle.mr_model.specs.declared.request.Request.TheVariants.{AddMfc, AddProxy}
use Rattle.mr_model.specs.Answer.{release, packets_of, released_in, made_route, freed_by}
use Rattle.mr_model.specs.Legal.{Agrees, CallAgrees, IsLegal}
use Rattle.mr_model.specs.Outcome.{judged}
use Rattle.mr_model.specs.State.{State, state, granted, is_there, reported}
use Rattle.mr_model.specs.Waiting.{waiting}
use Rattle.mr_model.specs.WaitingList.{Waiter, Awaiting, is_awaiting, awaiting_of}
use Rattle.mr_laws.specs.Once.{times_released, times_waiting, times_parked}
use Rattle.mr_model.specs.declared.request.MfcCtl.{MfcCtl}
use Rattle.mr_model.specs.Fate.{parks}
use Rattle.mr_model.specs.Past.{last_index}
use Rattle.mr_model.proofs.Induction.{legal_induction, good_released, bad_released, index_rises}
use Rattle.mr_model.proofs.Pushing.{legal_front, legal_at}
use Rattle.mr_laws.proofs.Counting.{is_packet, one, times_in, times, each}
use Rattle.mr_laws.proofs.Moving.{count, Moves}
use Rattle.mr_laws.proofs.OneFate.{legal_known, legal_moves}

pub one_more : (b : Bool) (n : ℕ) → one b + n ≡ cond b (1 + n) n
one_more true n = refl
one_more false n = omega arith

counted_in : (lane : LaneNo) (index : ℕ) (ps : List Waiter) → times_in lane index ps ≡ count_by (is_packet lane index) ps
counted_in lane index ps =
    is_count_by (times_in lane index) (is_packet lane index) refl
    (λ w ws. one_more (is_packet lane index w) (times_in lane index ws)) ps

pub counted_waiting : (lane : LaneNo) (index : ℕ) (ws : List Awaiting) → times each lane index ws ≡ times_waiting lane index ws
counted_waiting lane index ws =
    is_sum_by (times each lane index) (λ a. count_by (is_packet lane index) a.packets) refl
    (λ a more. ap (λ (n : ℕ). n + times each lane index more) (counted_in lane index a.packets)) ws

-- the same among those released
abbrev times_named : LaneNo → ℕ → List ReleasedId → ℕ
times_named lane index [] = 0
times_named lane index (r ∷ rs) = one (r.lane.0 == lane.0 && r.index == index) + times_named lane index rs

counted_released : (lane : LaneNo) (index : ℕ) (ids : List ReleasedId) → times_named lane index ids ≡ times_released lane index ids
counted_released lane index ids =
    is_count_by (times_named lane index) (λ r. r.lane.0 == lane.0 && r.index == index) refl
    (λ r rs. one_more (r.lane.0 == lane.0 && r.index == index) (times_named lane index rs)) ids

release_times : (lane : LaneNo) (index : ℕ) (s : State) (r : Route) (ps : List Waiter) → times_named lane index (release s r ps) ≡ times_in lane index ps
release_times lane index s r [] = refl
release_times lane index s r (w ∷ ps) =
    ap (λ (n : ℕ). one (is_packet lane index w) + n)
    (release_times lane index (reported s w.lane w.index (judged s r w.flow.dev w.flow.ttl)) r ps)

-- those of one key are among those that wait
first_within : (lane : LaneNo) (index : ℕ) (src dst : Addr) (ws : List Awaiting) → times_in lane index (packets_of (awaiting_of ws src dst)) ≤ times each lane index ws
first_within lane index src dst [] = omega arith
first_within lane index src dst (a ∷ ws) =
    let more : times_in lane index (packets_of (awaiting_of ws src dst)) ≤ times each lane index ws = first_within lane index src dst ws in
    elim (is_awaiting src dst a) as (λ b. times_in lane index (packets_of (if b then Some a else awaiting_of ws src dst)) ≤ times_in lane index a.packets + times each lane index ws) [
      | true ↦ omega arith
      | false ↦ omega (arith, more)
    ]

freed_within : (lane : LaneNo) (index : ℕ) (s : State) (c : MfcCtl) (parent : Option ℕ) → times_in lane index (freed_by s c parent) ≤ times each lane index s.waiting
freed_within lane index s c parent =
    let first = first_within lane index c.src c.dst s.waiting in
    elim (is_there s c parent) as (λ b. times_in lane index (if b then [] else packets_of (awaiting_of s.waiting c.src c.dst)) ≤ times each lane index s.waiting) [
      | true ↦ omega arith
      | false ↦ first
    ]

released_within : (lane : LaneNo) (index : ℕ) (limits : Limits) (s : State) (d : DaemonNo) (r : Request) → times_named lane index (released_in limits s d r) ≤ times each lane index s.waiting
released_within lane index limits s d (AddMfc c) =
    let freed = freed_within lane index s c None in
    rw (release_times lane index (granted limits s d (AddMfc c)) (made_route s d c) (freed_by s c None)) freed
released_within lane index limits s d (AddProxy c) =
    let freed = freed_within lane index s c (Some c.parent) in
    rw (release_times lane index (granted limits s d (AddProxy c)) (made_route s d c) (freed_by s c (Some c.parent))) freed
released_within lane index limits s d r = omega arith

-- What a call releases waited before it, each packet once.
called_within : (limits : Limits) (g : List Entry) (d : DaemonNo) (r : Request) (reply : Reply) (ids : List ReleasedId) (lane : LaneNo) (index : ℕ) → CallAgrees limits g d r reply ids → times_named lane index ids ≤ count limits g lane index
called_within limits g d r Good ids lane index a =
    subst (λ (x : List ReleasedId). times_named lane index x ≤ count limits g lane index) (sym (good_released limits g d r ids a))
    (released_within lane index limits (state limits g) d r)
called_within limits g d r reply ids lane index a =
    subst (λ (x : List ReleasedId). times_named lane index x ≤ count limits g lane index) (sym (bad_released limits g d r reply ids (λ p. cc) a))
    (omega arith)

pub waits_once : (limits : Limits) (h : List Entry) (lane : LaneNo) (index : ℕ) → IsLegal limits h → times_waiting lane index (state limits h).waiting ≤ 1
waits_once limits h lane index l =
    let same = counted_waiting lane index (waiting limits h) in
    let once : count limits h lane index ≤ 1 = (legal_known limits lane index h l).once in
    omega (arith, same, once)

pub released_waited : (limits : Limits) (g : List Entry) (d : DaemonNo) (r : Request) (reply : Reply) (ids : List ReleasedId) (h : List Entry) (lane : LaneNo) (index : ℕ) → IsLegal limits (g ++ Call d r reply ids ∷ h) → times_released lane index ids ≤ times_waiting lane index (state limits g).waiting
released_waited limits g d r reply ids h lane index l =
    let within = called_within limits g d r reply ids lane index (legal_at limits g (Call d r reply ids) h l) in
    let same = counted_waiting lane index (waiting limits g) in
    let named = counted_released lane index ids in
    omega (arith, within, same, named)

pub released_once : (limits : Limits) (g : List Entry) (d : DaemonNo) (r : Request) (reply : Reply) (ids : List ReleasedId) (h : List Entry) (lane : LaneNo) (index : ℕ) → IsLegal limits (g ++ Call d r reply ids ∷ h) → times_released lane index ids ≤ 1
released_once limits g d r reply ids h lane index l =
    let within = released_waited limits g d r reply ids h lane index l in
    let once = waits_once limits g lane index (legal_front limits g (Call d r reply ids ∷ h) l) in
    omega (arith, within, once)

-- how often it was parked, which its index allows once
record Parkings (lane : LaneNo) (index : ℕ) (h : List Entry) : Type 0 where
  once : times_parked lane index h ≤ 1
  past : last_index lane h < index → times_parked lane index h ≡ 0

parked_push : (lane : LaneNo) (index : ℕ) (g : List Entry) (e : Entry) → times_parked lane index (g ++ e ∷ []) ≡ times_parked lane index g + one (parks e lane index)
parked_push lane index g e = fold_push (λ n x. n + cond (parks x lane index) 1 0) 0 g e

not_parking : (lane : LaneNo) (index : ℕ) (g : List Entry) (e : Entry) → last_index lane g ≤ last_index lane (g ++ e ∷ []) → parks e lane index ≡ false → Parkings lane index g → Parkings lane index (g ++ e ∷ [])
not_parking lane index g e rises p k =
    let none : one (parks e lane index) ≡ 0 = ap (λ (b : Bool). one b) p in
    let same : times_parked lane index (g ++ e ∷ []) ≡ times_parked lane index g = let push = parked_push lane index g e in omega (arith, push, none) in
    let once : times_parked lane index g ≤ 1 = k.once in
    record { once = omega (arith, same, once); past = λ q. same ∙ k.past (omega (arith, q, rises)) }

parkings_step : (limits : Limits) (lane : LaneNo) (index : ℕ) (g : List Entry) (e : Entry) → Agrees limits g e → Moves limits g e lane index → Parkings lane index g → Parkings lane index (g ++ e ∷ [])
parkings_step limits lane index g e a (inl s) k = not_parking lane index g e (index_rises limits g e lane a) s.not_parked k
parkings_step limits lane index g e a (inr (inl s)) k = not_parking lane index g e (index_rises limits g e lane a) s.not_parked k
parkings_step limits lane index g e a (inr (inr s)) k =
    let none : times_parked lane index g ≡ 0 = k.past s.rises in
    let new : one (parks e lane index) ≡ 1 = ap (λ (b : Bool). one b) s.parked in
    let push = parked_push lane index g e in
    let last : last_index lane (g ++ e ∷ []) ≡ index = s.last in
    record { once = omega (arith, push, none, new); past = λ q. omega (arith, q, last) }

pub parked_once : (limits : Limits) (h : List Entry) (lane : LaneNo) (index : ℕ) → IsLegal limits h → times_parked lane index h ≤ 1
parked_once limits h lane index l =
    let all = legal_induction limits (λ g. Parkings lane index g) (record { once = omega arith; past = λ q. refl })
    (λ g e legal a k. parkings_step limits lane index g e a (legal_moves limits g e lane index legal a) k) h l in
    all.once
