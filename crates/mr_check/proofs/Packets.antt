-- The packets that a lane is to send in the first phases, as the scenario's lines give them.
use Rattle.std.proofs.Common.{◌≡◌, ◌∙◌, ℕ, zero, suc, ◌+◌, ◌-◌, ◌≤◌, ◌<◌, ◌==◌, Bool, true, false, Some, None, List, [], ◌∷◌, ◌++◌, length, map, take, drop, get_or, fold, refl, sym, ap, arith, subst, append-nil}
use Rattle.std.proofs.lemmas.Bool.Decides.{nat_tests}
use Rattle.std.proofs.lemmas.Grind.{flat_map-append}
use Rattle.std.proofs.lemmas.List.{length-append}
use Rattle.std.proofs.lemmas.List.Elements.{filter-append}
use Rattle.std.specs.List.{AllByRecursion}
use Rattle.std.specs.Prelude.{flat_map, if◌then◌else◌, is_none, nat_lt, slice_get, slice_index}
use Rattle.mr_base.specs.Heads.{cause_of}
use Rattle.mr_base.specs.Outside.{Files}
use Rattle.mr_load.specs.Callers.{from_on}
use Rattle.mr_load.specs.Dues.{Due, LaneValue, dues_from, dues_in, lane_of, sent_of}
use Rattle.mr_load.specs.Items.{Content, contents_of, in_row, items_by, numbered}
use Rattle.mr_load.specs.Loading.{items_in, packets_in, run_limits}
use Rattle.mr_load.specs.Loads.{IsLoaded}
use Rattle.mr_load.specs.Made.{Sent, flow_of, items_of, packet_of, packets_from, to_ask, to_send}
use Rattle.mr_load.specs.declared.loading.Loaded.{Loaded}
use Rattle.mr_load.proofs.LawDues.{all_sent, dues_later, dues_of_phase}
use Rattle.mr_load.proofs.Rows.{items_one, numbered_append}
use Rattle.mr_model.specs.Legal.{packets_given}
use Rattle.mr_scenario.specs.declared.scenario.Given.{Given}
use Rattle.mr_scenario.specs.declared.scenario.Item.{Item}
use Rattle.mr_scenario.specs.declared.scenario.Phase.{Phase}
use Rattle.mr_scenario.specs.declared.scenario.Scenario.{Scenario}
use Rattle.mr_scenario.specs.declared.scenario.Script.{Script}
use Rattle.mr_check.specs.Callers.{due_before, lane_at, lines_to, no_lane, packets_to}
use Rattle.mr_check.proofs.Lists.{take_at, take_over}

all_before : (k : ℕ) (ds : List Due) → AllByRecursion (λ d. d.phase < k) ds → due_before k ds ≡ ds
all_before k [] a = refl
all_before k (d ∷ ds) a =
    let here : nat_lt d.phase k ≡ true = grind (arith, nat_tests, a.0) in
    rw here (ap (λ (xs : List Due). d ∷ xs) (all_before k ds a.1))

none_before : (k : ℕ) (ds : List Due) → AllByRecursion (λ d. k ≤ d.phase) ds → due_before k ds ≡ []
none_before k [] a = refl
none_before k (d ∷ ds) a =
    let here : nat_lt d.phase k ≡ false = grind (arith, nat_tests, a.0) in
    rw here (none_before k ds a.1)

of_before : (j k : ℕ) (ds : List Due) → j < k → AllByRecursion (λ d. d.phase ≡ j) ds → AllByRecursion (λ d. d.phase < k) ds
of_before j k [] less a = tt
of_before j k (d ∷ ds) less a = (omega (arith, a.0, less), of_before j k ds less a.1)

-- those of a lane's packets that are due in the first m phases are those of the first m phases
dues_before : (files : Files) (lane j m : ℕ) (before : List Item) (ps : List Phase) → due_before (j + m) (dues_from files lane j before ps) ≡ dues_from files lane j before (take m ps)
dues_before files lane j zero before [] = refl
dues_before files lane j (suc m) before [] = refl
dues_before files lane j zero before (q ∷ ps) =
    let place : j + 0 ≡ j = omega arith in
    rw place (none_before j (dues_from files lane j before (q ∷ ps)) (dues_later files lane j before (q ∷ ps)))
dues_before files lane j (suc m) before (q ∷ ps) =
    let place : j + suc m ≡ j + 1 + m = omega arith in
    let first : List Due = dues_in files lane j before q in
    let rest : List Due = dues_from files lane (j + 1) (before ++ q.items) ps in
    filter-append (λ (d : Due). nat_lt d.phase (j + suc m)) first rest
    ∙ ap (λ (xs : List Due). xs ++ due_before (j + suc m) rest) (all_before (j + suc m) first (of_before j (j + suc m) first (omega arith) (dues_of_phase files lane j before q)))
    ∙ ap (λ (xs : List Due). first ++ xs) (ap (λ (n : ℕ). due_before n rest) place ∙ dues_before files lane (j + 1) m (before ++ q.items) ps)

-- lane number n of a scenario
lane_from : (files : Files) (s : Scenario) (m k n : ℕ) → n < k → get_or (map (lane_of files s) (from_on m k)) n no_lane ≡ lane_of files s (m + n)
lane_from files s m zero n less = absurd (omega (arith, less))
lane_from files s m (suc k) zero less = ap (lane_of files s) (omega arith)
lane_from files s m (suc k) (suc n) less =
    let place : m + 1 + n ≡ m + suc n = omega arith in
    lane_from files s (m + 1) k n (omega (arith, less)) ∙ ap (lane_of files s) place

pub lane_is : (files : Files) (l : Loaded) (n : ℕ) → IsLoaded files l → 1 ≤ n → n ≤ l.scenario.lanes → lane_at l.lanes n ≡ lane_of files l.scenario n
lane_is files l n is least most =
    let place : 1 + (n - 1) ≡ n = omega (arith, least) in
    ap (λ (vs : List LaneValue). lane_at vs n) is.lanes
    ∙ lane_from files l.scenario 1 l.scenario.lanes (n - 1) (omega (arith, least, most)) ∙ ap (lane_of files l.scenario) place

-- the packets of a lane in the first k phases, from the lines
abbrev pub lines_packets : Files → Loaded → ℕ → ℕ → List Sent
lines_packets files l k lane = packets_from files lane 1 (items_in (take k l.scenario.phases))

pub packets_are : (files : Files) (l : Loaded) (k lane : ℕ) → IsLoaded files l → 1 ≤ lane → lane ≤ l.scenario.lanes → packets_to l k lane ≡ lines_packets files l k lane
packets_are files l k lane is least most =
    let start : 0 + k ≡ k = omega arith in
    ap (λ (v : LaneValue). map sent_of (due_before k v.packets)) (lane_is files l lane is least most)
    ∙ ap (map sent_of) (ap (λ (n : ℕ). due_before n (dues_from files lane 0 [] l.scenario.phases)) (sym start) ∙ dues_before files lane 0 k [] l.scenario.phases)
    ∙ all_sent (contents_of files) lane 0 [] (take k l.scenario.phases)

items_append : (a b : List Phase) → items_in (a ++ b) ≡ items_in a ++ items_in b
items_append a b = flat_map-append (λ (p : Phase). p.items) a b

-- one phase more
pub packets_more : (files : Files) (l : Loaded) (k lane : ℕ) (p : Phase) → slice_get l.scenario.phases k ≡ Some p
    → lines_packets files l (k + 1) lane ≡ lines_packets files l k lane ++ to_send files lane (items_in (take k l.scenario.phases)) p
packets_more files l k lane p at =
    let front : List Item = items_in (take k l.scenario.phases) in
    let number : 1 + items_by (contents_of files) lane front ≡ items_of files lane front + 1 = omega arith in
    ap (λ (is : List Item). packets_from files lane 1 is) (ap items_in (take_at l.scenario.phases k p at) ∙ items_append (take k l.scenario.phases) (p ∷ []) ∙ ap (λ (is : List Item). front ++ is) (append-nil p.items))
    ∙ numbered_append packet_of (contents_of files) lane 1 front p.items
    ∙ ap (λ (n : ℕ). lines_packets files l k lane ++ packets_from files lane n p.items) number

-- no more than all
pub packets_most : (files : Files) (l : Loaded) (k lane : ℕ) → length (lines_packets files l k lane) ≤ packets_in files l.scenario lane
packets_most files l k lane =
    let a : List Item = items_in (take k l.scenario.phases) in
    let b : List Item = items_in (drop k l.scenario.phases) in
    let whole : items_in l.scenario.phases ≡ a ++ b = ap items_in (sym (parts l.scenario.phases k)) ∙ items_append (take k l.scenario.phases) (drop k l.scenario.phases) in
    let all : packets_from files lane 1 (items_in l.scenario.phases) ≡ lines_packets files l k lane ++ packets_from files lane (1 + items_by (contents_of files) lane a) b =
    ap (λ (is : List Item). packets_from files lane 1 is) whole ∙ numbered_append packet_of (contents_of files) lane 1 a b in
    omega (arith, ap length all, length-append (lines_packets files l k lane) (packets_from files lane (1 + items_by (contents_of files) lane a) b))
  where
    parts : (ps : List Phase) (n : ℕ) → take n ps ++ drop n ps ≡ ps
    parts [] zero = refl
    parts [] (suc n) = refl
    parts (q ∷ ps) zero = refl
    parts (q ∷ ps) (suc n) = ap (λ (xs : List Phase). q ∷ xs) (parts ps n)

-- behind the last phase there is nothing more
pub packets_over : (files : Files) (l : Loaded) (k lane : ℕ) → length l.scenario.phases ≤ k → lines_packets files l (k + 1) lane ≡ lines_packets files l k lane
packets_over files l k lane over =
    ap (λ (ps : List Phase). packets_from files lane 1 (items_in ps)) (take_over l.scenario.phases (k + 1) (omega (arith, over)) ∙ sym (take_over l.scenario.phases k over))

pub lines_over : (l : Loaded) (k d : ℕ) → length l.scenario.phases ≤ k → lines_to l (k + 1) d ≡ lines_to l k d
lines_over l k d over =
    ap (flat_map (to_ask d)) (take_over l.scenario.phases (k + 1) (omega (arith, over)) ∙ sym (take_over l.scenario.phases k over))

pub lines_more : (l : Loaded) (k d : ℕ) (p : Phase) → slice_get l.scenario.phases k ≡ Some p → lines_to l (k + 1) d ≡ lines_to l k d ++ to_ask d p
lines_more l k d p at =
    ap (flat_map (to_ask d)) (take_at l.scenario.phases k p at) ∙ flat_map-append (to_ask d) (take k l.scenario.phases) (p ∷ [])
    ∙ ap (λ (xs : List Script). lines_to l k d ++ xs) (append-nil (to_ask d p))

-- as many as the limits give the lane

index_from : (n k j : ℕ) (f : ℕ → ℕ) → j < k → slice_index (map f (from_on n k)) j ≡ f (n + j)
index_from n zero j f less = absurd (omega (arith, less))
index_from n (suc k) zero f less = ap f (omega arith)
index_from n (suc k) (suc j) f less =
    let place : n + 1 + j ≡ n + suc j = omega arith in
    index_from (n + 1) k j f (omega (arith, less)) ∙ ap f place

pub given_is : (files : Files) (s : Scenario) (n : ℕ) → 1 ≤ n → n ≤ s.lanes → packets_given (run_limits files s) (record { 0 = n }) ≡ packets_in files s n
given_is files s n least most =
    let place : 1 + (n - 1) ≡ n = omega (arith, least) in
    index_from 1 s.lanes (n - 1) (packets_in files s) (omega (arith, least, most)) ∙ ap (packets_in files s) place

-- The numbers of packets rise: each is at least `from`, and above the one before.
abbrev pub SentRise : ℕ → List Sent → Type 0
SentRise from [] = Unit {0}
SentRise from (x ∷ xs) = (from ≤ x.index) × SentRise (x.index + 1) xs

-- all of them are less than `to`
abbrev SentBelow : ℕ → List Sent → Type 0
SentBelow to xs = AllByRecursion (λ x. x.index < to) xs

rise_lower : (a b : ℕ) (xs : List Sent) → a ≤ b → SentRise b xs → SentRise a xs
rise_lower a b [] le r = tt
rise_lower a b (x ∷ xs) le r = (omega (arith, r.0, le), r.1)

below_higher : (a b : ℕ) (xs : List Sent) → a ≤ b → SentBelow a xs → SentBelow b xs
below_higher a b [] le r = tt
below_higher a b (x ∷ xs) le r = (omega (arith, r.0, le), below_higher a b xs le r.1)

below_append : (to : ℕ) (xs ys : List Sent) → SentBelow to xs → SentBelow to ys → SentBelow to (xs ++ ys)
below_append to [] ys a b = b
below_append to (x ∷ xs) ys a b = (a.0, below_append to xs ys a.1 b)

rise_append : (a m : ℕ) (xs ys : List Sent) → a ≤ m → SentRise a xs → SentBelow m xs → SentRise m ys → SentRise a (xs ++ ys)
rise_append a m [] ys le r b q = rise_lower a m ys le q
rise_append a m (x ∷ xs) ys le r b q = (r.0, rise_append (x.index + 1) m xs ys (omega (arith, b.0)) r.1 b.1 q)

record Between (from to : ℕ) (xs : List Sent) : Type 0 where
  rise : SentRise from xs
  below : SentBelow to xs

between_none : (n m : ℕ) → Between n m []
between_none n m = record { rise = tt; below = tt }

between_both : (a m b : ℕ) (xs ys : List Sent) → a ≤ m → m ≤ b → Between a m xs → Between m b ys → Between a b (xs ++ ys)
between_both a m b xs ys le me x y = record {
  rise = rise_append a m xs ys le x.rise x.below y.rise;
  below = below_append b xs ys (below_higher m b xs me x.below) y.below;
}

one_between : (i : Item) (n : ℕ) (c : Content) → Between n (n + 1) (packet_of i n c)
one_between i n None = between_none n (n + 1)
one_between i n (Some bs) = either (is_none (cause_of bs))
  where
    either : (b : Bool) → Between n (n + 1) (if b then record { index = n; flow = flow_of i.dev bs } ∷ [] else [])
    either true = record { rise = (omega arith, tt); below = (omega arith, tt) }
    either false = between_none n (n + 1)

row_between : (i : Item) (n : ℕ) (cs : List Content) → Between n (n + length cs) (in_row (packet_of i) n cs)
row_between i n [] = between_none n (n + 0)
row_between i n (c ∷ cs) =
    let rest : Between (n + 1) (n + 1 + length cs) (in_row (packet_of i) (n + 1) cs) = row_between i (n + 1) cs in
    let end : n + 1 + length cs ≡ n + length (c ∷ cs) = omega arith in
    between_both n (n + 1) (n + length (c ∷ cs)) (packet_of i n c) (in_row (packet_of i) (n + 1) cs) (omega arith) (omega arith) (one_between i n c)
    (subst (λ (m : ℕ). Between (n + 1) m (in_row (packet_of i) (n + 1) cs)) end rest)

next_between : (C : Given → List Content) (lane n : ℕ) (i : Item) (is : List Item)
    → ((m : ℕ) → Between m (m + items_by C lane is) (numbered packet_of C lane m is))
    → (b : Bool) → (i.lane.0 == lane) ≡ b
    → Between n (n + items_by C lane (i ∷ is)) (if b then in_row (packet_of i) n (C i.given) ++ numbered packet_of C lane (n + length (C i.given)) is else numbered packet_of C lane n is)
next_between C lane n i is rest true t =
    let many : ℕ = length (C i.given) in
    let count : items_by C lane (i ∷ is) ≡ many + items_by C lane is = items_one C lane i is ∙ rw t refl in
    let end : n + many + items_by C lane is ≡ n + items_by C lane (i ∷ is) = omega (arith, count) in
    between_both n (n + many) (n + items_by C lane (i ∷ is)) (in_row (packet_of i) n (C i.given)) (numbered packet_of C lane (n + many) is) (omega arith) (omega (arith, count))
    (row_between i n (C i.given))
    (subst (λ (m : ℕ). Between (n + many) m (numbered packet_of C lane (n + many) is)) end (rest (n + many)))
next_between C lane n i is rest false t =
    let count : items_by C lane (i ∷ is) ≡ 0 + items_by C lane is = items_one C lane i is ∙ rw t refl in
    let end : n + items_by C lane is ≡ n + items_by C lane (i ∷ is) = omega (arith, count) in
    subst (λ (m : ℕ). Between n m (numbered packet_of C lane n is)) end (rest n)

lines_between : (C : Given → List Content) (lane n : ℕ) (is : List Item) → Between n (n + items_by C lane is) (numbered packet_of C lane n is)
lines_between C lane n [] = between_none n _
lines_between C lane n (i ∷ is) = next_between C lane n i is (λ m. lines_between C lane m is) (i.lane.0 == lane) refl

pub packets_rise : (files : Files) (l : Loaded) (k lane : ℕ) → SentRise 1 (lines_packets files l k lane)
packets_rise files l k lane = (lines_between (contents_of files) lane 1 (items_in (take k l.scenario.phases))).rise

-- the first of such packets, and those behind others

pub rise_take : (from n : ℕ) (xs : List Sent) → SentRise from xs → SentRise from (take n xs)
rise_take from zero xs r = tt
rise_take from (suc n) [] r = tt
rise_take from (suc n) (x ∷ xs) r = (r.0, rise_take (x.index + 1) n xs r.1)

-- one more than the last number, or where they begin
abbrev pub next_number : ℕ → List Sent → ℕ
next_number from xs = fold (λ b x. x.index + 1) from xs

pub rise_behind : (from : ℕ) (xs ys : List Sent) → SentRise from (xs ++ ys) → SentRise (next_number from xs) ys
rise_behind from [] ys r = r
rise_behind from (x ∷ xs) ys r = rise_behind (x.index + 1) xs ys r.1
