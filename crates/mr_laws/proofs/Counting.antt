-- How often a packet stands in the waiting list.
use Rattle.std.proofs.Common.{◌≡◌, ℕ, ◌+◌, ◌<◌, ◌≤◌, ◌==◌, ◌&&◌, ◌||◌, nat_lt, Bool, true, false, not, if◌then◌else◌, Some, List, [], ◌∷◌, ◌++◌, filter, refl, sym, ap, subst, ◌∙◌, ◌⊎◌, inl, inr, arith}
use Rattle.std.proofs.lemmas.Bool.{cases_lt, lt-ltb, le-ltb, and_parts, or_parts}
use Rattle.std.specs.List.{list_any}
use Rattle.mr_base.specs.declared.numbers.Addr.{Addr}
use Rattle.mr_base.specs.declared.numbers.LaneNo.{LaneNo}
use Rattle.mr_base.specs.declared.route.Route.{Route}
use Rattle.mr_model.specs.Answer.{release, packets_of}
use Rattle.mr_model.specs.Fate.{names}
use Rattle.mr_model.specs.Outcome.{judged}
use Rattle.mr_model.specs.State.{State, reported}
use Rattle.mr_model.specs.WaitingList.{Waiter, Awaiting, is_awaiting, awaiting_of, park, is_waiting}
use Rattle.mr_model.proofs.Induction.{same_addr}
use Rattle.mr_laws.specs.Shape.{KeysDiffer}

abbrev pub is_packet : LaneNo → ℕ → Waiter → Bool
is_packet lane index w = w.lane.0 == lane.0 && w.index == index

abbrev pub one : Bool → ℕ
one b = if b then 1 else 0

abbrev pub times_in : LaneNo → ℕ → List Waiter → ℕ
times_in lane index [] = 0
times_in lane index (w ∷ ps) = one (is_packet lane index w) + times_in lane index ps

-- in the records that pass a test
abbrev pub times : (Awaiting → Bool) → LaneNo → ℕ → List Awaiting → ℕ
times test lane index [] = 0
times test lane index (a ∷ ws) = (if test a then times_in lane index a.packets else 0) + times test lane index ws

abbrev pub each : Awaiting → Bool
each a = true

pub positive : (b : Bool) (n : ℕ) → (b || nat_lt 0 n) ≡ nat_lt 0 (one b + n)
positive true n = sym (lt-ltb 0 (1 + n) (omega arith))
positive false n =
    let same : n ≡ 0 + n = omega arith in
    ap (λ (k : ℕ). nat_lt 0 k) same

sum_positive : (m n : ℕ) → (nat_lt 0 m || nat_lt 0 n) ≡ nat_lt 0 (m + n)
sum_positive m n = by (cases_lt 0 m)
  where
    by : (0 < m) ⊎ (m ≤ 0) → (nat_lt 0 m || nat_lt 0 n) ≡ nat_lt 0 (m + n)
    by (inl some) = rw (lt-ltb 0 m some, lt-ltb 0 (m + n) (omega arith)) refl
    by (inr none) =
        let same : n ≡ m + n = omega arith in
        rw (le-ltb 0 m none) (ap (λ (k : ℕ). nat_lt 0 k) same)

any_in : (lane : LaneNo) (index : ℕ) (ps : List Waiter) → list_any (λ w. w.lane.0 == lane.0 && w.index == index) ps ≡ nat_lt 0 (times_in lane index ps)
any_in lane index [] = refl
any_in lane index (w ∷ ps) =
    ap (λ (b : Bool). is_packet lane index w || b) (any_in lane index ps) ∙ positive (is_packet lane index w) (times_in lane index ps)

pub waiting_times : (lane : LaneNo) (index : ℕ) (ws : List Awaiting) → is_waiting ws lane index ≡ nat_lt 0 (times each lane index ws)
waiting_times lane index [] = refl
waiting_times lane index (a ∷ ws) =
    rw (any_in lane index a.packets, waiting_times lane index ws) (sum_positive (times_in lane index a.packets) (times each lane index ws))

pub times_filter : (test : Awaiting → Bool) (lane : LaneNo) (index : ℕ) (ws : List Awaiting) → times each lane index (filter test ws) ≡ times test lane index ws
times_filter test lane index [] = refl
times_filter test lane index (a ∷ ws) =
    let more : times each lane index (filter test ws) ≡ times test lane index ws = times_filter test lane index ws in
    elim (test a) as (λ b. times each lane index (if b then a ∷ filter test ws else filter test ws) ≡ (if b then times_in lane index a.packets else 0) + times test lane index ws) [
      | true ↦ omega (arith, more)
      | false ↦ omega (arith, more)
    ]

pub times_split : (test : Awaiting → Bool) (lane : LaneNo) (index : ℕ) (ws : List Awaiting) → times test lane index ws + times (λ a. not (test a)) lane index ws ≡ times each lane index ws
times_split test lane index [] = omega arith
times_split test lane index (a ∷ ws) =
    let more : times test lane index ws + times (λ a. not (test a)) lane index ws ≡ times each lane index ws = times_split test lane index ws in
    let here = times_in lane index a.packets in
    elim (test a) as (λ b. ((if b then here else 0) + times test lane index ws) + ((if not b then here else 0) + times (λ a. not (test a)) lane index ws) ≡ here + times each lane index ws) [
      | true ↦ omega (arith, more)
      | false ↦ omega (arith, more)
    ]

times_append : (lane : LaneNo) (index : ℕ) (ps qs : List Waiter) → times_in lane index (ps ++ qs) ≡ times_in lane index ps + times_in lane index qs
times_append lane index [] qs = omega arith
times_append lane index (w ∷ ps) qs = omega (arith, times_append lane index ps qs)

pub times_park : (lane : LaneNo) (index now : ℕ) (w : Waiter) (ws : List Awaiting) → times each lane index (park ws now w) ≡ one (is_packet lane index w) + times each lane index ws
times_park lane index now w [] = omega arith
times_park lane index now w (a ∷ ws) =
    let more : times each lane index (park ws now w) ≡ one (is_packet lane index w) + times each lane index ws = times_park lane index now w ws in
    let joined : times_in lane index (a.packets ++ w ∷ []) ≡ times_in lane index a.packets + (one (is_packet lane index w) + 0) = times_append lane index a.packets (w ∷ []) in
    elim (is_awaiting w.flow.src w.flow.dst a) as (λ b. times each lane index (if b then record a { packets = a.packets ++ w ∷ [] } ∷ ws else a ∷ park ws now w) ≡ one (is_packet lane index w) + (times_in lane index a.packets + times each lane index ws)) [
      | true ↦ omega (arith, joined)
      | false ↦ omega (arith, more)
    ]

-- a key that no record has
pub times_none : (test : Awaiting → Bool) (lane : LaneNo) (index : ℕ) (ws : List Awaiting) → list_any test ws ≡ false → times test lane index ws ≡ 0
times_none test lane index [] p = refl
times_none test lane index (a ∷ ws) p =
    let parts = or_parts (test a) (list_any test ws) p in
    let more : times test lane index ws ≡ 0 = times_none test lane index ws parts.1 in
    rw (parts.0, more) refl

-- a record of this key is the only one
pub key_stands_once : (src dst : Addr) (a : Awaiting) (ws : List Awaiting) → is_awaiting src dst a ≡ true → KeysDiffer (a ∷ ws) → list_any (is_awaiting src dst) ws ≡ false
key_stands_once src dst a ws p k =
    let parts = and_parts (a.src.0 == src.0) (a.dst.0 == dst.0) p in
    subst (λ (s : Addr). list_any (is_awaiting s dst) ws ≡ false) (same_addr a.src src parts.0)
    (subst (λ (d : Addr). list_any (is_awaiting a.src d) ws ≡ false) (same_addr a.dst dst parts.1) k.0)

pub keyed_times : (src dst : Addr) (lane : LaneNo) (index : ℕ) (ws : List Awaiting) → KeysDiffer ws → times_in lane index (packets_of (awaiting_of ws src dst)) ≡ times (is_awaiting src dst) lane index ws
keyed_times src dst lane index [] k = refl
keyed_times src dst lane index (a ∷ ws) k = by (is_awaiting src dst a) refl (keyed_times src dst lane index ws k.1)
  where
    by : (b : Bool) → is_awaiting src dst a ≡ b → times_in lane index (packets_of (awaiting_of ws src dst)) ≡ times (is_awaiting src dst) lane index ws → times_in lane index (packets_of (if b then Some a else awaiting_of ws src dst)) ≡ (if b then times_in lane index a.packets else 0) + times (is_awaiting src dst) lane index ws
    by true p more =
        let none : times (is_awaiting src dst) lane index ws ≡ 0 = times_none (is_awaiting src dst) lane index ws (key_stands_once src dst a ws p k) in
        omega (arith, none)
    by false p more = omega (arith, more)

-- the packets that a route releases are named once each
pub names_times : (lane : LaneNo) (index : ℕ) (s : State) (r : Route) (ps : List Waiter) → names (release s r ps) lane index ≡ nat_lt 0 (times_in lane index ps)
names_times lane index s r [] = refl
names_times lane index s r (w ∷ ps) =
    ap (λ (b : Bool). is_packet lane index w || b) (names_times lane index (reported s w.lane w.index (judged s r w.flow.dev w.flow.ttl)) r ps)
    ∙ positive (is_packet lane index w) (times_in lane index ps)
