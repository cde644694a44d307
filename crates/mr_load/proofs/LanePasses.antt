-- What a lane is given by items in a row, by lines in a row, and by phases in a row.
use Rattle.std.proofs.Common.{◌≡◌, ◌≢◌, refl, ap, sym, ◌∙◌, subst, ℕ, zero, suc, ◌+◌, ◌==◌, ◌<◌, ◌≤◌, Bool, true, false, Option, Some, None, List, [], ◌∷◌, ◌++◌, length, map, take, drop, set, get_or, slice_get, add-zero, arith}
use Rattle.std.proofs.lemmas.List.{length-append, length-map, append-nil, append_assoc, length-take-le, take_more, take_all, drop_more}
use Rattle.std.specs.List.{AllByRecursion}
use Rattle.std.specs.Prelude.{if◌then◌else◌, is_none}
use Rattle.mr_base.specs.Heads.{cause_of}
use Rattle.mr_base.specs.declared.head_error.HeadError.{HeadError}
use Rattle.mr_lines.specs.declared.skip.Skip.{Skip}
use Rattle.mr_load.specs.Dues.{Due, LaneValue, IsBefore, due_of, dues_by, with_due}
use Rattle.mr_load.specs.Items.{Content, contents_in, in_row, numbered, items_by, all_items}
use Rattle.mr_load.specs.Loading.{skip_of, skip_dev, items_in, cause_number}
use Rattle.mr_load.specs.Passing.{EachFrom, BothFrom, IsOfLanes, IsFresh, IsOpen, PassesRow, Passes, HasPassed}
use Rattle.mr_load.specs.declared.passing.Passed.{Passed}
use Rattle.mr_load.proofs.EachLane.{each_weaker, each_get, both_from, each_after, both_on, both_count, both_set}
use Rattle.mr_load.proofs.Numbered.{items_in_append, from_append}
use Rattle.mr_load.proofs.Rows.{all_append, all_weaker, all_items_append, all_one, first_items, items_append, items_most, left_items, numbered_append, row_append}
use Rattle.mr_pcap.specs.Traces.{Capture, Captured, ip_part_of}
use Rattle.mr_scenario.specs.declared.scenario.Given.{Given}
use Rattle.mr_scenario.specs.declared.scenario.Item.{Item}
use Rattle.mr_scenario.specs.declared.scenario.Phase.{Phase}

-- items in a row

one_before : (b : Bool) (n k : ℕ) (d : Due) → d.index ≡ n → d.phase ≡ k → AllByRecursion (IsBefore (n + 1) k) (if b then d ∷ [] else [])
one_before true n k d e f = ((omega (arith, e), omega (arith, f)), tt)
one_before false n k d e f = tt

content_before : (k : ℕ) (i : Item) (n : ℕ) (c : Content) → AllByRecursion (IsBefore (n + 1) k) (due_of k i n c)
content_before k i n None = tt
content_before k i n (Some bs) = one_before (is_none (cause_of bs)) n k (record { phase = k; index = n; dev = i.dev; bytes = bs }) refl refl

-- one item
pub content_passes : (k : ℕ) (i : Item) (c : Content) (a b : Passed) → AllByRecursion (IsBefore a.next k) a.packets.packets
    → b.packets.lane ≡ a.packets.lane → b.packets.packets ≡ a.packets.packets ++ due_of k i a.next c → b.skips.items ≡ a.skips.items ++ skip_of i a.next c
    → b.devs.items ≡ a.devs.items ++ skip_dev i a.next c → b.next ≡ a.next + 1 → PassesRow k i (c ∷ []) a b
content_passes k i c a b before lane packets skips devs next = record {
  lane_is = lane;
  packets = packets ∙ ap (λ l. a.packets.packets ++ l) (sym (append-nil (due_of k i a.next c)));
  skips = skips ∙ ap (λ l. a.skips.items ++ l) (sym (append-nil (skip_of i a.next c)));
  devs = devs ∙ ap (λ l. a.devs.items ++ l) (sym (append-nil (skip_dev i a.next c)));
  next = next;
  before = rw (packets, next)
      (all_append (IsBefore (a.next + 1) k) a.packets.packets (due_of k i a.next c)
      (all_weaker (IsBefore a.next k) (IsBefore (a.next + 1) k) (λ d e. (omega (arith, e.0), e.1)) a.packets.packets before)
      (content_before k i a.next c));
}

pub packet_passes : (k : ℕ) (i : Item) (bs : List ℕ) (a b : Passed) → cause_of bs ≡ None → AllByRecursion (IsBefore a.next k) a.packets.packets
    → b.packets ≡ with_due a.packets (record { phase = k; index = a.next; dev = i.dev; bytes = bs }) → b.skips.items ≡ a.skips.items → b.devs.items ≡ a.devs.items → b.next ≡ a.next + 1
    → PassesRow k i (Some bs ∷ []) a b
packet_passes k i bs a b none before packets skips devs next =
    content_passes k i (Some bs) a b before (ap (λ (v : LaneValue). v.lane) packets)
    (rw none (ap (λ (v : LaneValue). v.packets) packets)) (rw none (skips ∙ sym (append-nil a.skips.items))) (rw none (devs ∙ sym (append-nil a.devs.items))) next

pub skip_passes : (k : ℕ) (i : Item) (bs : List ℕ) (e : HeadError) (a b : Passed) → cause_of bs ≡ Some e → AllByRecursion (IsBefore a.next k) a.packets.packets
    → b.packets ≡ a.packets → b.skips.items ≡ a.skips.items ++ record { lane = i.lane; index = a.next; cause = cause_number e } ∷ [] → b.devs.items ≡ a.devs.items ++ i.dev ∷ [] → b.next ≡ a.next + 1
    → PassesRow k i (Some bs ∷ []) a b
skip_passes k i bs e a b some before packets skips devs next =
    content_passes k i (Some bs) a b before (ap (λ (v : LaneValue). v.lane) packets)
    (rw some (ap (λ (v : LaneValue). v.packets) packets ∙ sym (append-nil a.packets.packets))) (rw some skips) (rw some devs) next

pub other_item : (k : ℕ) (i : Item) (a b : Passed) → AllByRecursion (IsBefore a.next k) a.packets.packets
    → b.packets ≡ a.packets → b.skips.items ≡ a.skips.items ++ record { lane = i.lane; index = a.next; cause = 0 } ∷ [] → b.devs.items ≡ a.devs.items ++ i.dev ∷ [] → b.next ≡ a.next + 1
    → PassesRow k i (None ∷ []) a b
other_item k i a b before packets skips devs next =
    content_passes k i None a b before (ap (λ (v : LaneValue). v.lane) packets)
    (ap (λ (v : LaneValue). v.packets) packets ∙ sym (append-nil a.packets.packets)) skips devs next

pub row_nothing : (k : ℕ) (i : Item) (a : Passed) → AllByRecursion (IsBefore a.next k) a.packets.packets → PassesRow k i [] a a
row_nothing k i a before = record {
  lane_is = refl;
  packets = sym (append-nil a.packets.packets);
  skips = sym (append-nil a.skips.items);
  devs = sym (append-nil a.devs.items);
  next = sym (add-zero a.next);
  before = before;
}

pub row_on : (k : ℕ) (i : Item) (cs ds : List Content) (a b c : Passed) → PassesRow k i cs a b → PassesRow k i ds b c → PassesRow k i (cs ++ ds) a c
row_on k i cs ds a b c p q = record {
  lane_is = q.lane_is ∙ p.lane_is;
  packets = rw (q.packets, p.packets, p.next) (append_assoc a.packets.packets (in_row (due_of k i) a.next cs) _ ∙ ap (λ l. a.packets.packets ++ l) (sym (row_append (due_of k i) a.next cs ds)));
  skips = rw (q.skips, p.skips, p.next) (append_assoc a.skips.items (in_row (skip_of i) a.next cs) _ ∙ ap (λ l. a.skips.items ++ l) (sym (row_append (skip_of i) a.next cs ds)));
  devs = rw (q.devs, p.devs, p.next) (append_assoc a.devs.items (in_row (skip_dev i) a.next cs) _ ∙ ap (λ l. a.devs.items ++ l) (sym (row_append (skip_dev i) a.next cs ds)));
  next = omega (arith, q.next, p.next, length-append cs ds);
  before = q.before;
}

-- the next of a list that is mapped
map_next : {A B : Type 0} (f : A → B) (xs : List A) (i : ℕ) (x : A) → slice_get xs i ≡ Some x → take (i + 1) (map f xs) ≡ take i (map f xs) ++ f x ∷ []
map_next f [] i x e = absurd (cc)
map_next f (y ∷ ys) zero x e =
    let same : y ≡ x = cc in
    rw same refl
map_next f (y ∷ ys) (suc i) x e =
    let number : suc i + 1 ≡ suc (i + 1) = omega arith in
    rw number (ap (λ l. f y ∷ l) (map_next f ys i x e))

-- one frame of a trace more
pub frame_on : (k : ℕ) (item : Item) (c : Capture) (i : ℕ) (r : Captured) (first a b : Passed) → slice_get c.records i ≡ Some r → PassesRow k item (take i (contents_in c)) first a
    → PassesRow k item (ip_part_of c.link r.bytes ∷ []) a b → PassesRow k item (take (i + 1) (contents_in c)) first b
frame_on k item c i r first a b at p q =
    rw (map_next (λ (r : Captured). ip_part_of c.link r.bytes) c.records i r at)
    (row_on k item (take i (contents_in c)) (ip_part_of c.link r.bytes ∷ []) first a b p q)

pub row_first : (k : ℕ) (i : Item) (cs : List Content) (first a : Passed) → 1 ≤ first.next → PassesRow k i cs first a → 1 ≤ a.next
row_first k i cs first a some p = omega (arith, p.next, some)

-- while items are left, there are numbers for them
pub row_fits : (k : ℕ) (item : Item) (c : Capture) (i : ℕ) (first a : Passed) → i < length c.records → first.next + length (contents_in c) ≤ 4294967295 → PassesRow k item (take i (contents_in c)) first a
    → a.next < 4294967295
row_fits k item c i first a within fits p =
    let all : length (contents_in c) ≡ length c.records = length-map c.records (λ (r : Captured). ip_part_of c.link r.bytes) in
    omega (arith, p.next, fits, within, all, length-take-le i (contents_in c) (omega (arith, within, all)))

-- all items of a trace
pub row_all : (k : ℕ) (item : Item) (c : Capture) (i : ℕ) (first a : Passed) → length c.records ≤ i → PassesRow k item (take i (contents_in c)) first a → PassesRow k item (contents_in c) first a
row_all k item c i first a end p =
    let all : length (contents_in c) ≡ length c.records = length-map c.records (λ (r : Captured). ip_part_of c.link r.bytes) in
    subst (λ (cs : List Content). PassesRow k item cs first a) (take_all i (contents_in c) (omega (arith, end, all))) p

-- no line, and lines behind others
nothing_passes : (C : Given → List Content) (k lane : ℕ) (a : Passed) → AllByRecursion (IsBefore a.next k) a.packets.packets → Passes C k [] lane a a
nothing_passes C k lane a before = record {
  lane_is = refl;
  packets = sym (append-nil a.packets.packets);
  skips = sym (append-nil a.skips.items);
  devs = sym (append-nil a.devs.items);
  next = sym (add-zero a.next);
  before = before;
}

passes_on : (C : Given → List Content) (k lane : ℕ) (xs ys : List Item) (a b c : Passed) → Passes C k xs lane a b → Passes C k ys lane b c → Passes C k (xs ++ ys) lane a c
passes_on C k lane xs ys a b c p q = record {
  lane_is = q.lane_is ∙ p.lane_is;
  packets = rw (q.packets, p.packets, p.next) (append_assoc a.packets.packets (numbered (due_of k) C lane a.next xs) _ ∙ ap (λ l. a.packets.packets ++ l) (sym (numbered_append (due_of k) C lane a.next xs ys)));
  skips = rw (q.skips, p.skips, p.next) (append_assoc a.skips.items (numbered skip_of C lane a.next xs) _ ∙ ap (λ l. a.skips.items ++ l) (sym (numbered_append skip_of C lane a.next xs ys)));
  devs = rw (q.devs, p.devs, p.next) (append_assoc a.devs.items (numbered skip_dev C lane a.next xs) _ ∙ ap (λ l. a.devs.items ++ l) (sym (numbered_append skip_dev C lane a.next xs ys)));
  next = omega (arith, q.next, p.next, items_append C lane xs ys);
  before = q.before;
}

-- one line, of its lane and of another one

pub item_passes : (C : Given → List Content) (k lane : ℕ) (x : Item) (a b : Passed) → (x.lane.0 == lane) ≡ true → PassesRow k x (C x.given) a b → Passes C k (x ∷ []) lane a b
item_passes C k lane x a b its p = record {
  lane_is = p.lane_is;
  packets = p.packets ∙ ap (λ l. a.packets.packets ++ l) (rw its (sym (append-nil (in_row (due_of k x) a.next (C x.given)))));
  skips = p.skips ∙ ap (λ l. a.skips.items ++ l) (rw its (sym (append-nil (in_row (skip_of x) a.next (C x.given)))));
  devs = p.devs ∙ ap (λ l. a.devs.items ++ l) (rw its (sym (append-nil (in_row (skip_dev x) a.next (C x.given)))));
  next = omega (arith, p.next, first_items C lane x [] its);
  before = p.before;
}

pub other_passes : (C : Given → List Content) (k lane : ℕ) (x : Item) (a : Passed) → (x.lane.0 == lane) ≡ false → AllByRecursion (IsBefore a.next k) a.packets.packets → Passes C k (x ∷ []) lane a a
other_passes C k lane x a other before = record {
  lane_is = refl;
  packets = rw other (sym (append-nil a.packets.packets));
  skips = rw other (sym (append-nil a.skips.items));
  devs = rw other (sym (append-nil a.devs.items));
  next = omega (arith, left_items C lane x [] other);
  before = before;
}

other_number : (m n : ℕ) → n ≢ m → (m == n) ≡ false
other_number m n other = grind (arith, other)

same_number : (m n : ℕ) → n ≡ m → (m == n) ≡ true
same_number m n same = grind (arith, same)

-- one line, for all lanes
pub one_passes : (C : Given → List Content) (k room i : ℕ) (x : Item) (ls : List Passed) (a y : Passed) → 1 + i ≡ x.lane.0 → i < length ls → a ≡ get_or ls i a → EachFrom (IsOpen k room) 1 ls → PassesRow k x (C x.given) a y
    → BothFrom (Passes C k (x ∷ [])) 1 ls (set ls i y)
one_passes C k room i x ls a y place within at ready p =
    both_set (IsOpen k room) (Passes C k (x ∷ [])) 1 i ls a y within at ready
    (λ lane b other o. other_passes C k lane x b (other_number x.lane.0 lane (λ same. other (same ∙ sym place))) o.before)
    (item_passes C k (1 + i) x a y (same_number x.lane.0 (1 + i) place) p)

pub its_open : (k room i lane : ℕ) (ls : List Passed) (a : Passed) → 1 + i ≡ lane → i < length ls → a ≡ get_or ls i a → EachFrom (IsOpen k room) 1 ls → IsOpen k room lane a
its_open k room i lane ls a place within at ready = subst (λ (l : ℕ). IsOpen k room l a) place (each_get (IsOpen k room) 1 i ls a ready within at)

-- Where some lines of phase k are passed, and the others are left.
pub record Keeps (C : Given → List Content) (k i : ℕ) (is : List Item) (first now : List Passed) : Type 0 where
  pub passes : BothFrom (Passes C k (take i is)) 1 first now
  pub ready : EachFrom (IsOpen k (all_items C (drop i is))) 1 now
  pub count : length now ≡ length first

pub keeps_first : (C : Given → List Content) (k : ℕ) (is : List Item) (ls : List Passed) → EachFrom (IsOpen k (all_items C is)) 1 ls → Keeps C k 0 is ls ls
keeps_first C k is ls ready = record {
  passes = both_from (IsOpen k (all_items C is)) (Passes C k []) (λ lane a o. nothing_passes C k lane a o.before) 1 ls ready;
  ready = ready;
  count = refl;
}

open_on : (C : Given → List Content) (k room rest lane : ℕ) (x : Item) (a b : Passed) → room ≡ length (C x.given) + rest → IsOpen k room lane a → Passes C k (x ∷ []) lane a b → IsOpen k rest lane b
open_on C k room rest lane x a b e o p = record {
  lane_is = p.lane_is ∙ o.lane_is;
  first = omega (arith, o.first, p.next);
  before = p.before;
  fits = omega (arith, o.fits, p.next, items_most C lane (x ∷ []), all_one C x [], e);
}

-- the items of the lines that are left
left_one : (C : Given → List Content) (i : ℕ) (is : List Item) (x : Item) → i < length is → x ≡ get_or is i x → all_items C (drop i is) ≡ length (C x.given) + all_items C (drop (i + 1) is)
left_one C i is x within at =
    ap (all_items C) (drop_more is i x within ∙ ap (λ y. y ∷ drop (i + 1) is) (sym at)) ∙ all_one C x (drop (i + 1) is)

pub keeps_item : (C : Given → List Content) (k i : ℕ) (is : List Item) (x : Item) (first a b : List Passed) → i < length is → x ≡ get_or is i x → Keeps C k i is first a → BothFrom (Passes C k (x ∷ [])) 1 a b
    → Keeps C k (i + 1) is first b
keeps_item C k i is x first a b within at keeps p =
    let more : take (i + 1) is ≡ take i is ++ x ∷ [] = take_more is i x within ∙ ap (λ y. take i is ++ y ∷ []) (sym at) in
    record {
      passes = rw more (both_on (Passes C k (take i is)) (Passes C k (x ∷ [])) (Passes C k (take i is ++ x ∷ [])) (λ lane c d e q r. passes_on C k lane (take i is) (x ∷ []) c d e q r) 1 first a b keeps.passes p);
      ready = each_after (IsOpen k (all_items C (drop i is))) (IsOpen k (all_items C (drop (i + 1) is))) (Passes C k (x ∷ []))
          (λ lane c d o q. open_on C k (all_items C (drop i is)) (all_items C (drop (i + 1) is)) lane x c d (left_one C i is x within at) o q) 1 a b keeps.ready p;
      count = both_count (Passes C k (x ∷ [])) 1 a b p ∙ keeps.count;
    }

-- phases in a row

has_on : (C : Given → List Content) (lane : ℕ) (ps : List Phase) (p : Phase) (a b : Passed) → HasPassed C ps lane a → Passes C (length ps) p.items lane a b → HasPassed C (ps ++ p ∷ []) lane b
has_on C lane ps p a b h q =
    let items : items_in (ps ++ p ∷ []) ≡ items_in ps ++ p.items = items_in_append ps (p ∷ []) ∙ ap (λ (is : List Item). items_in ps ++ is) (append-nil p.items) in
    let first : 1 + items_by C lane (items_in ps) ≡ items_by C lane (items_in ps) + 1 = omega arith in
    let number : length ps ≡ 0 + length ps = omega arith in
    let phase : dues_by C lane (length ps) (items_in ps) (p ∷ []) ≡ numbered (due_of (length ps)) C lane (items_by C lane (items_in ps) + 1) p.items = append-nil (numbered (due_of (length ps)) C lane (items_by C lane (items_in ps) + 1) p.items) in
    record {
      lane_is = q.lane_is ∙ h.lane_is;
      packets = rw (q.packets, h.packets, h.next) (ap (λ ds. dues_by C lane 0 [] ps ++ ds) (sym phase) ∙ ap (λ k. dues_by C lane 0 [] ps ++ dues_by C lane k (items_in ps) (p ∷ [])) number ∙ sym (from_append C lane 0 [] ps (p ∷ [])));
      skips = rw (q.skips, h.skips, h.next, items, numbered_append skip_of C lane 1 (items_in ps) p.items, first) refl;
      devs = rw (q.devs, h.devs, h.next, items, numbered_append skip_dev C lane 1 (items_in ps) p.items, first) refl;
      next = rw items (omega (arith, q.next, h.next, items_append C lane (items_in ps) p.items));
      before = all_weaker (IsBefore b.next (length ps)) (IsBefore b.next (length (ps ++ p ∷ []))) (λ d e. (e.0, omega (arith, e.1, length-append ps (p ∷ [])))) b.packets.packets q.before;
    }

fresh_has : (C : Given → List Content) (lane : ℕ) (a : Passed) → IsFresh lane a → HasPassed C [] lane a
fresh_has C lane a f = record {
  lane_is = f.lane_is;
  packets = f.packets;
  skips = f.skips;
  devs = f.devs;
  next = f.next;
  before = rw f.packets tt;
}

pub phases_first : (C : Given → List Content) (ls : List Passed) → EachFrom IsFresh 1 ls → EachFrom (HasPassed C []) 1 ls
phases_first C ls e = each_weaker IsFresh (HasPassed C []) (λ lane a f. fresh_has C lane a f) 1 ls e

has_open : (C : Given → List Content) (lane k room : ℕ) (ps : List Phase) (a : Passed) → length ps ≡ k → all_items C (items_in ps) + room ≤ 1048576 → HasPassed C ps lane a → IsOpen k room lane a
has_open C lane k room ps a e few h = record {
  lane_is = h.lane_is;
  first = omega (arith, h.next);
  before = rw (← e) h.before;
  fits = omega (arith, h.next, items_most C lane (items_in ps), few);
}

phase_fits : (C : Given → List Content) (i : ℕ) (ps : List Phase) (p : Phase) → i < length ps → p ≡ get_or ps i p → all_items C (items_in (take i ps)) + all_items C p.items ≤ all_items C (items_in ps)
phase_fits C i [] p within at = absurd (omega (arith, within))
phase_fits C zero (q ∷ ps) p within at = rw at (omega (arith, all_items_append C q.items (items_in ps)))
phase_fits C (suc i) (q ∷ ps) p within at =
    omega (arith, phase_fits C i ps p (omega (arith, within)) at, all_items_append C q.items (items_in ps), all_items_append C q.items (items_in (take i ps)))

pub phases_open : (C : Given → List Content) (i : ℕ) (ps : List Phase) (p : Phase) (ls : List Passed) → i < length ps → p ≡ get_or ps i p → all_items C (items_in ps) ≤ 1048576
    → EachFrom (HasPassed C (take i ps)) 1 ls → EachFrom (IsOpen i (all_items C p.items)) 1 ls
phases_open C i ps p ls within at few has =
    each_weaker (HasPassed C (take i ps)) (IsOpen i (all_items C p.items))
    (λ lane a h. has_open C lane i (all_items C p.items) (take i ps) a (length-take-le i ps (omega (arith, within))) (omega (arith, phase_fits C i ps p within at, few)) h) 1 ls has

pub phases_on : (C : Given → List Content) (i : ℕ) (ps : List Phase) (p : Phase) (ls bs : List Passed) → i < length ps → p ≡ get_or ps i p
    → EachFrom (HasPassed C (take i ps)) 1 ls → BothFrom (Passes C i p.items) 1 ls bs → EachFrom (HasPassed C (take (i + 1) ps)) 1 bs
phases_on C i ps p ls bs within at has passes =
    let more : take (i + 1) ps ≡ take i ps ++ p ∷ [] = take_more ps i p within ∙ ap (λ q. take i ps ++ q ∷ []) (sym at) in
    let number : length (take i ps) ≡ i = length-take-le i ps (omega (arith, within)) in
    rw more
    (each_after (HasPassed C (take i ps)) (HasPassed C (take i ps ++ p ∷ [])) (Passes C i p.items)
    (λ lane a b h q. has_on C lane (take i ps) p a b h (rw number q)) 1 ls bs has passes)

pub phases_count : (C : Given → List Content) (i : ℕ) (p : Phase) (ls bs : List Passed) → BothFrom (Passes C i p.items) 1 ls bs → length bs ≡ length ls
phases_count C i p ls bs passes = both_count (Passes C i p.items) 1 ls bs passes

room_for : (k room some lane : ℕ) (a : Passed) → some ≤ room → IsOpen k room lane a → IsOpen k some lane a
room_for k room some lane a less o = record {
  lane_is = o.lane_is;
  first = o.first;
  before = o.before;
  fits = omega (arith, o.fits, less);
}

-- room for the items of one line, where that is left
pub ready_one : (C : Given → List Content) (k i : ℕ) (is : List Item) (x : Item) (ls : List Passed) → i < length is → x ≡ get_or is i x → EachFrom (IsOpen k (all_items C (drop i is))) 1 ls → EachFrom (IsOpen k (length (C x.given))) 1 ls
ready_one C k i is x ls within at ready =
    each_weaker (IsOpen k (all_items C (drop i is))) (IsOpen k (length (C x.given)))
    (λ lane a o. room_for k (all_items C (drop i is)) (length (C x.given)) lane a (omega (arith, left_one C i is x within at)) o) 1 ls ready

-- a lane that is made behind others
pub fresh_one : (p : Passed) (i : ℕ) (ls : List Passed) → length ls ≡ i → p.packets ≡ record { lane = record { 0 = i + 1 }; packets = [] } → p.skips.items ≡ [] → p.devs.items ≡ [] → p.next ≡ 1
    → IsFresh (1 + length ls) p
fresh_one p i ls count packets skips devs next =
    let number : i + 1 ≡ 1 + length ls = omega (arith, count) in
    record {
      lane_is = ap (λ (v : LaneValue). v.lane) packets ∙ ap (λ (n : ℕ). record { 0 = n }) number;
      packets = ap (λ (v : LaneValue). v.packets) packets;
      skips = skips;
      devs = devs;
      next = next;
    }

-- nothing is left
pub items_passed : (C : Given → List Content) (k i : ℕ) (is : List Item) (first now : List Passed) → length is ≤ i → Keeps C k i is first now → BothFrom (Passes C k is) 1 first now
items_passed C k i is first now end keeps = subst (λ (some : List Item). BothFrom (Passes C k some) 1 first now) (take_all i is end) keeps.passes

pub phases_passed : (C : Given → List Content) (i : ℕ) (ps : List Phase) (ls : List Passed) → length ps ≤ i → EachFrom (HasPassed C (take i ps)) 1 ls → EachFrom (HasPassed C ps) 1 ls
phases_passed C i ps ls end has = subst (λ (some : List Phase). EachFrom (HasPassed C some) 1 ls) (take_all i ps end) has
