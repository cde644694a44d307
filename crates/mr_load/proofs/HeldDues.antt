-- Packets keep their bytes while the list grows.
use Rattle.std.proofs.Common.{◌≡◌, refl, ap, sym, ◌∙◌, ℕ, zero, suc, ◌+◌, ◌<◌, ◌≤◌, Some, None, List, [], ◌∷◌, ◌++◌, length, map, take, drop, get_or, slice_get, arith}
use Rattle.std.proofs.lemmas.List.{length-append, length-map}
use Rattle.std.specs.List.{AllByRecursion}
use Rattle.std.specs.Prelude.{IfSome}
use Rattle.mr_base.specs.AcceptedHeads.{IsHeadOf}
use Rattle.mr_base.specs.Heads.{cause_of}
use Rattle.mr_base.specs.declared.head.Head.{Head}
use Rattle.mr_load.specs.Made.{flow_of}
use Rattle.mr_load.specs.Dues.{Due, RiseFrom, IsBefore, IsAccepted, AreDue, flow_by}
use Rattle.mr_load.specs.HeldBytes.{due_held, dues_held, IsWithin}
use Rattle.mr_load.specs.declared.lane.Held.{Held}

pub all_push : {A : Type 0} (P : A → Type 0) (xs : List A) (y : A) → AllByRecursion P xs → P y → AllByRecursion P (xs ++ y ∷ [])
all_push P [] y a p = (p, tt)
all_push P (x ∷ xs) y a p = (a.0, all_push P xs y a.1 p)

-- the value at a place of a list that is mapped
pub get_map : {A B : Type 0} (f : A → B) (xs : List A) (i : ℕ) (x : A) → i < length xs → x ≡ get_or xs i x → slice_get (map f xs) i ≡ Some (f x)
get_map f [] i x within e = absurd (omega (arith, within))
get_map f (y ∷ ys) zero x within e = ap (λ z. Some (f z)) (sym e)
get_map f (y ∷ ys) (suc i) x within e = get_map f ys i x (omega (arith, within)) e

pub all_get : {A : Type 0} (P : A → Type 0) (xs : List A) (i : ℕ) (x : A) → i < length xs → x ≡ get_or xs i x → AllByRecursion P xs → P x
all_get P [] i x within e a = absurd (omega (arith, within))
all_get P (y ∷ ys) zero x within e a = rw e a.0
all_get P (y ∷ ys) (suc i) x within e a = all_get P ys i x (omega (arith, within)) e a.1

-- a part of a list that grew
take_left : {A : Type 0} (xs ys : List A) (n : ℕ) → n ≤ length xs → take n (xs ++ ys) ≡ take n xs
take_left xs ys zero within = refl
take_left [] ys (suc n) within = absurd (omega arith)
take_left (x ∷ xs) ys (suc n) within = ap (λ zs. x ∷ zs) (take_left xs ys n (omega (arith, within)))

part_left : {A : Type 0} (xs ys : List A) (from count : ℕ) → from + count ≤ length xs → take count (drop from (xs ++ ys)) ≡ take count (drop from xs)
part_left xs ys zero count within = take_left xs ys count (omega (arith, within))
part_left [] ys (suc from) count within = absurd (omega arith)
part_left (x ∷ xs) ys (suc from) count within = part_left xs ys from count (omega (arith, within))

part_end : {A : Type 0} (xs ys : List A) → take (length ys) (drop (length xs) (xs ++ ys)) ≡ ys
part_end [] [] = refl
part_end [] (y ∷ ys) = ap (λ zs. y ∷ zs) (part_end [] ys)
part_end (x ∷ xs) ys = part_end xs ys

due_grown : (all more : List ℕ) (h : Held) → IsWithin all h → due_held (all ++ more) h ≡ due_held all h
due_grown all more h within = rw (part_left all more h.from h.length within) refl

pub dues_grown : (all more : List ℕ) (hs : List Held) → AllByRecursion (IsWithin all) hs → dues_held (all ++ more) hs ≡ dues_held all hs
dues_grown all more [] a = refl
dues_grown all more (h ∷ hs) a = rw (due_grown all more h a.0) (ap (λ ds. due_held all h ∷ ds) (dues_grown all more hs a.1))

pub within_grown : (all more : List ℕ) (hs : List Held) → AllByRecursion (IsWithin all) hs → AllByRecursion (IsWithin (all ++ more)) hs
within_grown all more [] a = tt
within_grown all more (h ∷ hs) a = (omega (arith, length-append all more, a.0), within_grown all more hs a.1)

-- one packet more, its bytes at the end of the list
pub dues_pushed : (all more : List ℕ) (hs : List Held) (h : Held) → AllByRecursion (IsWithin all) hs → h.from ≡ length all → h.length ≡ length more
    → dues_held (all ++ more) (hs ++ h ∷ []) ≡ dues_held all hs ++ record { phase = h.phase; index = h.index; dev = h.dev; bytes = more } ∷ []
dues_pushed all more [] h a from long = rw (from, long, part_end all more) refl
dues_pushed all more (x ∷ hs) h a from long = rw (due_grown all more x a.0) (ap (λ ds. due_held all x ∷ ds) (dues_pushed all more hs h a.1 from long))

pub within_pushed : (all more : List ℕ) (hs : List Held) (h : Held) → AllByRecursion (IsWithin all) hs → h.from ≡ length all → h.length ≡ length more
    → AllByRecursion (IsWithin (all ++ more)) (hs ++ h ∷ [])
within_pushed all more hs h a from long =
    all_push (IsWithin (all ++ more)) hs h (within_grown all more hs a) (omega (arith, length-append all more, from, long))

rise_push : (n k : ℕ) (ds : List Due) (d : Due) → RiseFrom n k ds → n < d.index → k ≤ d.phase → AllByRecursion (IsBefore d.index d.phase) ds → RiseFrom n k (ds ++ d ∷ [])
rise_push n k [] d r first phase a = (first, phase, tt)
rise_push n k (e ∷ ds) d r first phase a = (r.0, r.1, rise_push e.index e.phase ds d r.2 a.0.0 a.0.1 a.1)

pub due_push : (ds : List Due) (d : Due) → AreDue ds → IsAccepted d → 1 ≤ d.index → AllByRecursion (IsBefore d.index d.phase) ds → AreDue (ds ++ d ∷ [])
due_push ds d a accepted first behind = record {
  accepted = all_push IsAccepted ds d a.accepted accepted;
  rise = rise_push 0 0 ds d a.rise (omega (arith, first)) (omega arith) behind;
}

-- what a lane is with one packet more
pub lane_pushed : (all more : List ℕ) (hs : List Held) (h : Held) → AllByRecursion (IsWithin all) hs → AreDue (dues_held all hs) → h.from ≡ length all → h.length ≡ length more
    → cause_of more ≡ None → 1 ≤ h.index → AllByRecursion (IsBefore h.index h.phase) (dues_held all hs) → AreDue (dues_held (all ++ more) (hs ++ h ∷ []))
lane_pushed all more hs h within due from long accepted first behind =
    rw (dues_pushed all more hs h within from long)
    (due_push (dues_held all hs) (record { phase = h.phase; index = h.index; dev = h.dev; bytes = more }) due accepted first behind)

-- the packet at a place
pub at_due : (P : Due → Type 0) (all : List ℕ) (hs : List Held) (i : ℕ) (h : Held) → i < length (dues_held all hs) → h ≡ get_or hs i h → P (due_held all h)
    → IfSome (slice_get (dues_held all hs) i) P
at_due P all hs i h within at p =
    let place : i < length hs = rw (length-map hs (due_held all)) at within in
    rw (get_map (due_held all) hs i h place at) p

pub accepted_at : (all : List ℕ) (hs : List Held) (i : ℕ) (h : Held) → i < length (dues_held all hs) → h ≡ get_or hs i h → AllByRecursion IsAccepted (dues_held all hs) → IsAccepted (due_held all h)
accepted_at all [] i h within at a = absurd (omega (arith, within))
accepted_at all (x ∷ hs) zero h within at a = rw at a.0
accepted_at all (x ∷ hs) (suc i) h within at a = accepted_at all hs i h (omega (arith, within)) at a.1

pub flow_same : (dev : ℕ) (h : Head) (bs : List ℕ) → IsHeadOf h bs → flow_by dev h ≡ flow_of dev bs
flow_same dev h bs e = rw (← e.total, ← e.ttl, ← e.src, ← e.dst) refl
