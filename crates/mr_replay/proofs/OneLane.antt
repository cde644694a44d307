-- A lane's packets of one phase, one after another.
use Rattle.std.proofs.Common.{◌≡◌, ◌≢◌, ◌∙◌, ℕ, zero, suc, ◌+◌, ◌≤◌, ◌<◌, ◌==◌, true, false, List, [], ◌∷◌, ◌++◌, drop, length, map, take, get_or, refl, sym, ap, arith, append-nil, append_assoc, subst}
use Rattle.std.proofs.Math.Seq.{take-suc}
use Rattle.std.proofs.lemmas.List.{map-append}
use Rattle.std.specs.List.{AllByRecursion}
use Rattle.std.specs.Prelude.{IfSome, slice_get}
use Rattle.mr_callers.specs.Deeds.{Sends}
use Rattle.mr_callers.proofs.Doing.{does_none, does_then}
use Rattle.mr_load.specs.Dues.{Due, LaneValue, RiseFrom, sent_of}
use Rattle.mr_load.specs.Made.{Sent, sent_in}
use Rattle.mr_model.specs.declared.entry.Entry.{Entry}
use Rattle.mr_replay.specs.Lanes.{HasSent, LaneReady, due_in, next_due}

abbrev pub no_due : Due
no_due = record { phase = 0; index = 0; dev = 0; bytes = [] }

-- what is said of an element that is there
pub at_place : {X : Type 0} (P : X → Type 0) (xs : List X) (place : ℕ) (none : X) → place < length xs → IfSome (slice_get xs place) P → P (get_or xs place none)
at_place P [] place none less a = absurd (omega (arith, less))
at_place P (x ∷ xs) zero none less a = a
at_place P (x ∷ xs) (suc place) none less a = at_place P xs place none (omega (arith, less)) a

pub all_at : {X : Type 0} (P : X → Type 0) (xs : List X) (place : ℕ) (none : X) → place < length xs → AllByRecursion P xs → P (get_or xs place none)
all_at P [] place none less a = absurd (omega (arith, less))
all_at P (x ∷ xs) zero none less a = a.0
all_at P (x ∷ xs) (suc place) none less a = all_at P xs place none (omega (arith, less)) a.1

pub next_is : (ds : List Due) (place : ℕ) → place < length ds → next_due place ds ≡ get_or ds place no_due ∷ []
next_is [] place less = absurd (omega (arith, less))
next_is (d ∷ ds) zero less = refl
next_is (d ∷ ds) (suc place) less = next_is ds place (omega (arith, less))

pub take_next : (ds : List Due) (place : ℕ) → place < length ds → take (place + 1) ds ≡ take place ds ++ next_due place ds
take_next ds place less =
    let next : place + 1 ≡ suc place = omega arith in
    ap (λ (n : ℕ). take n ds) next ∙ take-suc ds place no_due less ∙ ap (λ (xs : List Due). take place ds ++ xs) (sym (next_is ds place less))

drop_suc : (ds : List Due) (place : ℕ) → place < length ds → drop place ds ≡ get_or ds place no_due ∷ drop (suc place) ds
drop_suc [] place less = absurd (omega (arith, less))
drop_suc (d ∷ ds) zero less = refl
drop_suc (d ∷ ds) (suc place) less = drop_suc ds place (omega (arith, less))

pub drop_next : (ds : List Due) (place : ℕ) → place < length ds → drop place ds ≡ get_or ds place no_due ∷ drop (place + 1) ds
drop_next ds place less =
    let next : suc place ≡ place + 1 = omega arith in
    drop_suc ds place less ∙ ap (λ (n : ℕ). get_or ds place no_due ∷ drop n ds) next

-- From a place on a lane has sent some packets of phase k, up to another place.
pub record Sending (k : ℕ) (v : LaneValue) (place : ℕ) (old now : List Entry) : Type 0 where
  pub done : List Due
  pub sends : Sends v.lane.0 (map sent_of done) old now
  pub has : HasSent v place now
  pub due : due_in k v.packets ≡ done ++ due_in k (drop place v.packets)
  pub past : AllByRecursion (λ d. d.phase < k + 1) (take place v.packets)
  pub left : AllByRecursion (λ d. k ≤ d.phase) (drop place v.packets)

none_due : (k : ℕ) (ds : List Due) → AllByRecursion (λ d. d.phase < k) ds → due_in k ds ≡ []
none_due k [] a = refl
none_due k (d ∷ ds) a =
    let other : (d.phase == k) ≡ false = grind (arith, a.0) in
    rw other (none_due k ds a.1)

none_later : (k : ℕ) (ds : List Due) → AllByRecursion (λ d. k + 1 ≤ d.phase) ds → due_in k ds ≡ []
none_later k [] a = refl
none_later k (d ∷ ds) a =
    let other : (d.phase == k) ≡ false = grind (arith, a.0) in
    rw other (none_later k ds a.1)

weaker : (k : ℕ) (ds : List Due) → AllByRecursion (λ d. d.phase < k) ds → AllByRecursion (λ d. d.phase < k + 1) ds
weaker k [] a = tt
weaker k (d ∷ ds) a = (omega (arith, a.0), weaker k ds a.1)

due_behind : (k place : ℕ) (ds : List Due) → AllByRecursion (λ d. d.phase < k) (take place ds) → due_in k ds ≡ due_in k (drop place ds)
due_behind k zero ds a = refl
due_behind k (suc place) [] a = refl
due_behind k (suc place) (d ∷ ds) a =
    let other : (d.phase == k) ≡ false = grind (arith, a.0) in
    rw other (due_behind k place ds a.1)

-- nothing is sent yet
pub begins : (k : ℕ) (v : LaneValue) (place : ℕ) (h : List Entry) → LaneReady k v place h → Sending k v place h h
begins k v place h r = record {
  done = [];
  sends = does_none v.lane.0 (sent_in v.lane.0) h;
  has = r.has;
  due = due_behind k place v.packets r.past;
  past = weaker k (take place v.packets) r.past;
  left = r.left;
}

all_append : {X : Type 0} (P : X → Type 0) (xs ys : List X) → AllByRecursion P xs → AllByRecursion P ys → AllByRecursion P (xs ++ ys)
all_append P [] ys a b = b
all_append P (x ∷ xs) ys a b = (a.0, all_append P xs ys a.1 b)

-- one packet more
pub sends_one : (k : ℕ) (v : LaneValue) (place : ℕ) (old now new : List Entry) → place < length v.packets → (get_or v.packets place no_due).phase ≡ k
    → Sending k v place old now → Sends v.lane.0 (map sent_of (next_due place v.packets)) now new → HasSent v (place + 1) new → Sending k v (place + 1) old new
sends_one k v place old now new less same s one has =
    let d : Due = get_or v.packets place no_due in
    let next : next_due place v.packets ≡ d ∷ [] = next_is v.packets place less in
    let front : drop place v.packets ≡ d ∷ drop (place + 1) v.packets = drop_next v.packets place less in
    let equal : (d.phase == k) ≡ true = grind (arith, same) in
    let more : due_in k (drop place v.packets) ≡ next_due place v.packets ++ due_in k (drop (place + 1) v.packets) = ap (due_in k) front ∙ rw (equal, next) refl in
    let lefts : AllByRecursion (λ (x : Due). k ≤ x.phase) (d ∷ drop (place + 1) v.packets) = subst (λ (xs : List Due). AllByRecursion (λ (x : Due). k ≤ x.phase) xs) front s.left in
    record {
      done = s.done ++ next_due place v.packets;
      sends = subst (λ (xs : List Sent). Sends v.lane.0 xs old new) (sym (map-append sent_of s.done (next_due place v.packets)))
          (does_then v.lane.0 (sent_in v.lane.0) (map sent_of s.done) (map sent_of (next_due place v.packets)) old now new s.sends one);
      has = has;
      due = s.due ∙ ap (λ (xs : List Due). s.done ++ xs) more ∙ sym (append_assoc s.done (next_due place v.packets) (due_in k (drop (place + 1) v.packets)));
      past = subst (λ (xs : List Due). AllByRecursion (λ (x : Due). x.phase < k + 1) xs) (sym (take_next v.packets place less))
          (all_append (λ (x : Due). x.phase < k + 1) (take place v.packets) (next_due place v.packets) s.past
          (subst (λ (xs : List Due). AllByRecursion (λ (x : Due). x.phase < k + 1) xs) (sym next) (omega (arith, same), tt)));
      left = lefts.1;
    }

-- nothing is left of phase k
pub ends : (k : ℕ) (v : LaneValue) (place : ℕ) (old now : List Entry) → AllByRecursion (λ d. k + 1 ≤ d.phase) (drop place v.packets) → Sending k v place old now
    → Sends v.lane.0 (map sent_of (due_in k v.packets)) old now × LaneReady (k + 1) v place now
ends k v place old now later s =
    let all : due_in k v.packets ≡ s.done = s.due ∙ ap (λ (xs : List Due). s.done ++ xs) (none_later k (drop place v.packets) later) ∙ append-nil s.done in (
      subst (λ (xs : List Due). Sends v.lane.0 (map sent_of xs) old now) (sym all) s.sends,
      record { has = s.has; past = s.past; left = later },
    )

rise_phases : (n k : ℕ) (ds : List Due) → RiseFrom n k ds → AllByRecursion (λ d. k ≤ d.phase) ds
rise_phases n k [] r = tt
rise_phases n k (d ∷ ds) r = (r.1, later ds (rise_phases d.index d.phase ds r.2))
  where
    later : (es : List Due) → AllByRecursion (λ e. d.phase ≤ e.phase) es → AllByRecursion (λ e. k ≤ e.phase) es
    later [] a = tt
    later (e ∷ es) a = (omega (arith, a.0, r.1), later es a.1)

rise_behind : (n k : ℕ) (ds : List Due) (place : ℕ) → RiseFrom n k ds → place < length ds → AllByRecursion (λ e. (get_or ds place no_due).phase ≤ e.phase) (drop place ds)
rise_behind n k [] place r less = absurd (omega (arith, less))
rise_behind n k (d ∷ ds) zero r less = (omega arith, rise_phases d.index d.phase ds r.2)
rise_behind n k (d ∷ ds) (suc place) r less = rise_behind d.index d.phase ds place r.2 (omega (arith, less))

later_all : (k m : ℕ) (es : List Due) → k ≤ m → AllByRecursion (λ e. m ≤ e.phase) es → AllByRecursion (λ e. k ≤ e.phase) es
later_all k m [] le a = tt
later_all k m (e ∷ es) le a = (omega (arith, a.0, le), later_all k m es le a.1)

-- a packet of another phase comes next
pub ends_before : (k : ℕ) (v : LaneValue) (place : ℕ) (old now : List Entry) → RiseFrom 0 0 v.packets → place < length v.packets → (get_or v.packets place no_due).phase ≢ k
    → Sending k v place old now → Sends v.lane.0 (map sent_of (due_in k v.packets)) old now × LaneReady (k + 1) v place now
ends_before k v place old now r less other s =
    let p : ℕ = (get_or v.packets place no_due).phase in
    let lefts : AllByRecursion (λ (x : Due). k ≤ x.phase) (get_or v.packets place no_due ∷ drop (place + 1) v.packets) =
    subst (λ (xs : List Due). AllByRecursion (λ (x : Due). k ≤ x.phase) xs) (drop_next v.packets place less) s.left in
    let above : k + 1 ≤ p = grind (arith, lefts.0, other) in
    ends k v place old now (later_all (k + 1) p (drop place v.packets) above (rise_behind 0 0 v.packets place r less)) s

no_more : (ds : List Due) (k : ℕ) → AllByRecursion (λ d. k ≤ d.phase) (drop (length ds) ds)
no_more [] k = tt
no_more (d ∷ ds) k = no_more ds k

-- all packets of the lane were sent
pub ends_all : (k : ℕ) (v : LaneValue) (place : ℕ) (old now : List Entry) → place ≡ length v.packets
    → Sending k v place old now → Sends v.lane.0 (map sent_of (due_in k v.packets)) old now × LaneReady (k + 1) v place now
ends_all k v place old now e s =
    ends k v place old now (subst (λ (x : ℕ). AllByRecursion (λ (d : Due). k + 1 ≤ d.phase) (drop x v.packets)) (sym e) (no_more v.packets (k + 1))) s
