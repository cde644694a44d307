-- Groups of packets that wait, and the waiting list that they stand for.
use Rattle.std.proofs.Common.{◌≡◌, ℕ, zero, suc, ◌+◌, ◌<◌, ◌≤◌, Bool, true, false, not, cond, if◌then◌else◌, Option, Some, None, option_map, List, [], ◌∷◌, ◌++◌, length, map, find, filter, get_or, set, take, refl, sym, ap, ◌∙◌, subst, arith, IfSome, nat_le}
use Rattle.std.proofs.lemmas.Grind.{common_steps}
use Rattle.std.proofs.lemmas.List.{length-map, length-take-le, take_more_set}
use Rattle.std.proofs.lemmas.Option.{same_Some}
use Rattle.std.specs.List.{position, position_or_len}
use Rattle.mr_base.specs.declared.numbers.Addr.{Addr}
use Rattle.mr_model.specs.declared.flow.Flow.{Flow}
use Rattle.mr_model.specs.declared.limits.Limits.{Limits}
use Rattle.mr_model.specs.declared.outcome.Cause.TheVariants as cause
use Rattle.mr_model.specs.declared.outcome.Outcome.TheVariants as outcome
use Rattle.mr_base.specs.declared.numbers.Mask.{Mask}
use Rattle.mr_base.specs.declared.route.Route.{Route}
use Rattle.mr_model.specs.declared.verdict.Verdict.TheVariants as verdict
use Rattle.mr_model.specs.Found.{found_in}
use Rattle.mr_model.specs.Outcome.{decided, joins, unmet, outcome_met, outcome_in}
use Rattle.mr_model.specs.Verdict.{passes, outs_of, input_of, has_register}
use Rattle.mr_model.specs.VifList.{vif_on}
use Rattle.mr_model.specs.State.{State}
use Rattle.mr_model.specs.WaitingList.{Waiter, Awaiting, is_awaiting, awaiting_of, park}
use Rattle.mr_plain_lists.proofs.Places.{place_is, place_within}
use Rattle.mr_plain_lists.specs.declared.known.Group.{Group}
use Rattle.mr_plain_lists.specs.declared.known.Held.{Held}
use Rattle.mr_plain_lists.specs.Knowing.{waiter, held, awaiting, IsGroup, AreGroups}

-- the group is of this source and group
abbrev pub is_of : Addr → Addr → Group → Bool
is_of src dst g = is_awaiting src dst (awaiting g)

pub find_awaiting : (ws : List Group) (src dst : Addr) → awaiting_of (map awaiting ws) src dst ≡ option_map awaiting (find (is_of src dst) ws)
find_awaiting [] src dst = refl
find_awaiting (g ∷ ws) src dst = by (is_of src dst g) (find_awaiting ws src dst)
  where
    by : (b : Bool) → awaiting_of (map awaiting ws) src dst ≡ option_map awaiting (find (is_of src dst) ws) → (if b then Some (awaiting g) else awaiting_of (map awaiting ws) src dst) ≡ option_map awaiting (if b then Some g else find (is_of src dst) ws)
    by true more = refl
    by false more = more

pub filter_awaiting : (test : Awaiting → Bool) (ws : List Group) → map awaiting (filter (λ g. test (awaiting g)) ws) ≡ filter test (map awaiting ws)
filter_awaiting test [] = refl
filter_awaiting test (g ∷ ws) = by (test (awaiting g)) (filter_awaiting test ws)
  where
    by : (b : Bool) → map awaiting (filter (λ g. test (awaiting g)) ws) ≡ filter test (map awaiting ws) → map awaiting (if b then g ∷ filter (λ g. test (awaiting g)) ws else filter (λ g. test (awaiting g)) ws) ≡ (if b then awaiting g ∷ filter test (map awaiting ws) else filter test (map awaiting ws))
    by true more = ap (λ (others : List Awaiting). awaiting g ∷ others) more
    by false more = more

map_push : {X Y : Type 0} (f : X → Y) (xs : List X) (x : X) → map f (xs ++ x ∷ []) ≡ map f xs ++ f x ∷ []
map_push f [] x = refl
map_push f (y ∷ xs) x = ap (λ (ys : List _). f y ∷ ys) (map_push f xs x)

-- one packet more behind those that wait
pub held_more : (packets : List Held) (count : ℕ) (w : Held) → count < length packets → map waiter (take (count + 1) (set packets count w)) ≡ map waiter (take count packets) ++ waiter w ∷ []
held_more packets count w within = ap (λ (ws : List Held). map waiter ws) (take_more_set packets count w within) ∙ map_push waiter (take count packets) w

-- a group with one packet more
abbrev pub with_packet : Awaiting → Waiter → Awaiting
with_packet a w = record a { packets = a.packets ++ w ∷ [] }

pub park_at : (ws : List Group) (now : ℕ) (w : Held) (d g : Group) → position_or_len (is_of w.flow.src w.flow.dst) ws < length ws
    → awaiting g ≡ with_packet (awaiting (get_or ws (position_or_len (is_of w.flow.src w.flow.dst) ws) d)) (waiter w)
    → map awaiting (set ws (position_or_len (is_of w.flow.src w.flow.dst) ws) g) ≡ park (map awaiting ws) now (waiter w)
park_at [] now w d g within is = absurd (omega arith)
park_at (x ∷ ws) now w d g within is = by (is_of w.flow.src w.flow.dst x) (park_at ws now w d g) within is
  where
    by : (b : Bool) → (position_or_len (is_of w.flow.src w.flow.dst) ws < length ws
        → awaiting g ≡ with_packet (awaiting (get_or ws (position_or_len (is_of w.flow.src w.flow.dst) ws) d)) (waiter w)
        → map awaiting (set ws (position_or_len (is_of w.flow.src w.flow.dst) ws) g) ≡ park (map awaiting ws) now (waiter w))
        → cond (not b) (1 + position_or_len (is_of w.flow.src w.flow.dst) ws) 0 < length (x ∷ ws)
        → awaiting g ≡ with_packet (awaiting (get_or (x ∷ ws) (cond (not b) (1 + position_or_len (is_of w.flow.src w.flow.dst) ws) 0) d)) (waiter w)
        → map awaiting (set (x ∷ ws) (cond (not b) (1 + position_or_len (is_of w.flow.src w.flow.dst) ws) 0) g)
        ≡ (if b then with_packet (awaiting x) (waiter w) ∷ map awaiting ws else awaiting x ∷ park (map awaiting ws) now (waiter w))
    by true more within is = ap (λ (a : Awaiting). a ∷ map awaiting ws) is
    by false more within is =
        let next : 1 + position_or_len (is_of w.flow.src w.flow.dst) ws ≡ suc (position_or_len (is_of w.flow.src w.flow.dst) ws) = omega arith in
        rw next (ap (λ (others : List Awaiting). awaiting x ∷ others) (more (omega (arith, within)) (rw next at is)))

-- the first packet of a source and group
abbrev pub alone : ℕ → Waiter → Awaiting
alone now w = record { src = w.flow.src; dst = w.flow.dst; since = now; packets = w ∷ [] }

pub park_new : (ws : List Group) (now : ℕ) (w : Held) (g : Group) → length ws ≤ position_or_len (is_of w.flow.src w.flow.dst) ws
    → awaiting g ≡ alone now (waiter w) → map awaiting (ws ++ g ∷ []) ≡ park (map awaiting ws) now (waiter w)
park_new [] now w g none is = ap (λ (a : Awaiting). a ∷ []) is
park_new (x ∷ ws) now w g none is = by (is_of w.flow.src w.flow.dst x) (λ far. park_new ws now w g far is) none
  where
    by : (b : Bool) → (length ws ≤ position_or_len (is_of w.flow.src w.flow.dst) ws → map awaiting (ws ++ g ∷ []) ≡ park (map awaiting ws) now (waiter w)) → length (x ∷ ws) ≤ cond (not b) (1 + position_or_len (is_of w.flow.src w.flow.dst) ws) 0
        → awaiting x ∷ map awaiting (ws ++ g ∷ []) ≡ (if b then with_packet (awaiting x) (waiter w) ∷ map awaiting ws else awaiting x ∷ park (map awaiting ws) now (waiter w))
    by true more none = absurd (omega (arith, none))
    by false more none = ap (λ (others : List Awaiting). awaiting x ∷ others) (more (omega (arith, none)))

pub groups_set : (ws : List Group) (i : ℕ) (g : Group) → AreGroups ws → IsGroup g → AreGroups (set ws i g)
groups_set [] i g are is = tt
groups_set (x ∷ ws) zero g are is = (is, are.1)
groups_set (x ∷ ws) (suc i) g are is = (are.0, groups_set ws i g are.1 is)

pub groups_push : (ws : List Group) (g : Group) → AreGroups ws → IsGroup g → AreGroups (ws ++ g ∷ [])
groups_push [] g are is = (is, tt)
groups_push (x ∷ ws) g are is = (are.0, groups_push ws g are.1 is)

pub groups_part : (test : Group → Bool) (ws : List Group) → AreGroups ws → AreGroups (filter test ws)
groups_part test [] are = tt
groups_part test (g ∷ ws) are = elim (test g) as (λ b. AreGroups (if b then g ∷ filter test ws else filter test ws)) [
  | true ↦ (are.0, groups_part test ws are.1)
  | false ↦ groups_part test ws are.1
]

pub group_found : (ws : List Group) (test : Group → Bool) (g : Group) → AreGroups ws → find test ws ≡ Some g → IsGroup g
group_found [] test g are found = absurd cc
group_found (x ∷ ws) test g are found = by (test x) (group_found ws test g are.1) found
  where
    by : (b : Bool) → (find test ws ≡ Some g → IsGroup g) → (if b then Some x else find test ws) ≡ Some g → IsGroup g
    by true more found = subst (λ (y : Group). IsGroup y) (same_Some _ _ found) are.0
    by false more found = more found

pub group_at : (ws : List Group) (i : ℕ) (d : Group) → AreGroups ws → i < length ws → IsGroup (get_or ws i d)
group_at [] i d are within = absurd (omega arith)
group_at (x ∷ ws) zero d are within = are.0
group_at (x ∷ ws) (suc i) d are within = group_at ws i d are.1 (omega (arith, within))

-- how many packets wait in a group
pub held_count : (g : Group) → IsGroup g → length (held g) ≡ g.count
held_count g is =
    length-map (take g.count g.packets) waiter ∙ length-take-le g.count g.packets (omega (arith, is.few, is.places))

first_is : (test : Group → Bool) (ws : List Group) (d : Group) → position_or_len test ws < length ws → find test ws ≡ Some (get_or ws (position_or_len test ws) d)
first_is test [] d within = absurd (omega arith)
first_is test (x ∷ ws) d within = by (test x) (first_is test ws d) within
  where
    by : (b : Bool) → (position_or_len test ws < length ws → find test ws ≡ Some (get_or ws (position_or_len test ws) d))
        → cond (not b) (1 + position_or_len test ws) 0 < length (x ∷ ws)
        → (if b then Some x else find test ws) ≡ Some (get_or (x ∷ ws) (cond (not b) (1 + position_or_len test ws) 0) d)
    by true more within = refl
    by false more within =
        let next : 1 + position_or_len test ws ≡ suc (position_or_len test ws) = omega arith in
        rw next (more (omega (arith, within)))

-- the first group that passes has room where the one found has
pub room_at : (test : Group → Bool) (ws : List Group) (i : ℕ) (g : Group) → IfSome (find test ws) (λ x. x.count < 4) → position test ws ≡ Some i → g ≡ get_or ws i g → g.count < 4
room_at test ws i g joins found there =
    let is : i ≡ position_or_len test ws = place_is test ws i found in
    let first : find test ws ≡ Some (get_or ws (position_or_len test ws) g) = first_is test ws g (place_within test ws i found) in
    let here : get_or ws (position_or_len test ws) g ≡ g = ap (λ (n : ℕ). get_or ws n g) (sym is) ∙ sym there in
    subst (λ (o : Option Group). IfSome o (λ x. x.count < 4)) (first ∙ ap (λ (x : Group). Some x) here) joins

pub group_here : (ws : List Group) (i : ℕ) (g : Group) (test : Group → Bool) → AreGroups ws → position test ws ≡ Some i → g ≡ get_or ws i g → IsGroup g
group_here ws i g test are found there =
    let is : i ≡ position_or_len test ws = place_is test ws i found in
    subst (λ (x : Group). IsGroup x) (sym there) (group_at ws i g are (omega (arith, is, place_within test ws i found)))

pub park_in : (ws : List Group) (now : ℕ) (w : Held) (i : ℕ) (r g : Group) → position (is_of w.flow.src w.flow.dst) ws ≡ Some i → r ≡ get_or ws i r
    → awaiting g ≡ with_packet (awaiting r) (waiter w) → map awaiting (set ws i g) ≡ park (map awaiting ws) now (waiter w)
park_in ws now w i r g found there is =
    let at : i ≡ position_or_len (is_of w.flow.src w.flow.dst) ws = place_is _ ws i found in
    let here : r ≡ get_or ws (position_or_len (is_of w.flow.src w.flow.dst) ws) r = there ∙ ap (λ (n : ℕ). get_or ws n r) at in
    ap (λ (n : ℕ). map awaiting (set ws n g)) at
    ∙ park_at ws now w r g (place_within _ ws i found) (is ∙ ap (λ (x : Group). with_packet (awaiting x) (waiter w)) here)

-- A packet that is parked beside others finds room.
pub joins_one : (limits : Limits) (s : State) (ws : List Group) (flow : Flow) → AreGroups ws
    → outcome.Parked ≡ joins limits s (awaiting_of (map awaiting ws) flow.src flow.dst) → IfSome (find (is_of flow.src flow.dst) ws) (λ g. g.count < 4)
joins_one limits s ws flow are parked = by (find (is_of flow.src flow.dst) ws) refl (rw (find_awaiting ws flow.src flow.dst) at parked)
  where
    by : (o : Option Group) → find (is_of flow.src flow.dst) ws ≡ o → outcome.Parked ≡ joins limits s (option_map awaiting o) → IfSome o (λ g. g.count < 4)
    by None found parked = tt
    by (Some g) found parked = full (nat_le 4 (length (held g))) refl parked
      where
        full : (b : Bool) → nat_le 4 (length (held g)) ≡ b → outcome.Parked ≡ (if b then outcome.Dropped cause.Packets else outcome.Parked) → g.count < 4
        full true is parked = absurd cc
        full false is parked = grind (arith, common_steps, held_count g (group_found ws (is_of flow.src flow.dst) g are found))

-- a packet that meets an entry is not parked
met_not : (s : State) (r : Route) (number : ℕ) (input vif : Option ℕ) (outs : Mask) (passed registers : Bool)
    → outcome.Parked ≡ decided s r (if passed then (if registers then verdict.Register number input outs else verdict.Forward number input outs) else verdict.Wrong number vif) → ⊥
met_not s r number input vif outs true true parked = cc
met_not s r number input vif outs true false parked = cc
met_not s r number input vif outs false registers parked = cc

pub parked_joins : (limits : Limits) (s : State) (flow : Flow) → outcome.Parked ≡ outcome_in limits s flow → outcome.Parked ≡ joins limits s (awaiting_of s.waiting flow.src flow.dst)
parked_joins limits s flow parked = by (found_in s.tables.vifs s.tables.routes flow.dev flow.src flow.dst) parked
  where
    there : (vif : Option ℕ) → outcome.Parked ≡ unmet limits s flow vif → outcome.Parked ≡ joins limits s (awaiting_of s.waiting flow.src flow.dst)
    there None parked = absurd cc
    there (Some i) parked = parked

    by : (o : Option Route) → outcome.Parked ≡ outcome_met limits s flow o → outcome.Parked ≡ joins limits s (awaiting_of s.waiting flow.src flow.dst)
    by None parked = there (vif_on s.tables.vifs flow.dev) parked
    by (Some r) parked = absurd (met_not s r r.number (input_of s.tables.vifs r) (vif_on s.tables.vifs flow.dev) (outs_of s.tables.vifs r flow.dev flow.ttl)
        (passes s.tables.vifs s.tables.routes r flow.dev) (has_register s.tables.vifs (outs_of s.tables.vifs r flow.dev flow.ttl)) parked)
