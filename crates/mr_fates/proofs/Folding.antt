-- Fates that are given one after another are given at once.
use Rattle.std.proofs.Common.{◌≡◌, ℕ, ◌==◌, ◌&&◌, ◌||◌, Bool, true, false, if◌then◌else◌, List, [], ◌∷◌, map, fold, refl, sym, ap, ◌∙◌}
use Rattle.std.specs.List.{list_any}
use Rattle.mr_base.specs.declared.numbers.LaneNo.{LaneNo}
use Rattle.mr_model.specs.declared.ending.Fate.{Fate}
use Rattle.mr_model.specs.declared.ending.FateLine.{FateLine}
use Rattle.mr_model.specs.WaitingList.{Waiter, Awaiting, is_waiting}
use Rattle.mr_laws.specs.Once.{is_line_of}
use Rattle.mr_laws.proofs.Keys.{eqb_swap}
use Rattle.mr_fates.specs.Lines.{ended_line, ended}
use Rattle.mr_fates.specs.After.{ended_each, ended_all}

-- a line with this fate, if it is to have it
abbrev pub mark : Fate → Bool → FateLine → FateLine
mark given b f = if b then record f { fate = given } else f

-- the same where its packet passes a test
abbrev pub marked : (LaneNo → ℕ → Bool) → Fate → FateLine → FateLine
marked test given f = mark given (test f.lane f.index) f

fuse : {X : Type 0} (g h k : X → X) → ((x : X) → g (h x) ≡ k x) → (xs : List X)
    → map g (map h xs) ≡ map k xs
fuse g h k same [] = refl
fuse g h k same (x ∷ xs) = ap (λ (y : _). y ∷ map g (map h xs)) (same x) ∙ ap (λ (ys : List _). k x ∷ ys) (fuse g h k same xs)

marked_none : (given : Fate) (lines : List FateLine)
    → map (marked (λ l i. false) given) lines ≡ lines
marked_none given [] = refl
marked_none given (f ∷ lines) = ap (λ (ls : List FateLine). f ∷ ls) (marked_none given lines)

-- marked once or twice is the same
mark_twice : (test : LaneNo → ℕ → Bool) (given : Fate) (u : Bool) (f : FateLine)
    → marked test given (mark given u f) ≡ mark given (u || test f.lane f.index) f
mark_twice test given true f = by (test f.lane f.index)
  where
    by : (b : Bool) → mark given b (record f { fate = given }) ≡ record f { fate = given }
    by true = refl
    by false = refl
mark_twice test given false f = refl

its_swap : (lane : LaneNo) (index : ℕ) (f : FateLine)
    → is_line_of lane index f ≡ (lane.0 == f.lane.0 && index == f.index)
its_swap lane index f = rw (eqb_swap f.lane.0 lane.0, eqb_swap f.index index) refl

-- the packets of a list
abbrev pub among : {X : Type 0} → (X → LaneNo) → (X → ℕ) → List X → LaneNo → ℕ → Bool
among lane_of index_of xs l i = list_any (λ x. (lane_of x).0 == l.0 && index_of x == i) xs

pub each_is : {X : Type 0} (lane_of : X → LaneNo) (index_of : X → ℕ) (given : Fate) (xs : List X) (lines : List FateLine)
    → fold (λ before x. ended (lane_of x) (index_of x) given before) lines xs ≡ map (marked (among lane_of index_of xs) given) lines
each_is lane_of index_of given [] lines = sym (marked_none given lines)
each_is {X} lane_of index_of given (x ∷ xs) lines =
    each_is lane_of index_of given xs (ended (lane_of x) (index_of x) given lines)
    ∙ fuse (marked (among lane_of index_of xs) given) (ended_line (lane_of x) (index_of x) given) (marked (among lane_of index_of (x ∷ xs)) given)
    (λ f. mark_twice (among lane_of index_of xs) given (is_line_of (lane_of x) (index_of x) f) f
    ∙ ap (λ (b : Bool). mark given (b || among lane_of index_of xs f.lane f.index) f) (its_swap (lane_of x) (index_of x) f)) lines

pub all_is : (given : Fate) (ws : List Awaiting) (lines : List FateLine)
    → ended_all given ws lines ≡ map (marked (is_waiting ws) given) lines
all_is given [] lines = sym (marked_none given lines)
all_is given (a ∷ ws) lines =
    all_is given ws (ended_each given a.packets lines)
    ∙ ap (λ (ls : List FateLine). map (marked (is_waiting ws) given) ls) (each_is (λ (w : Waiter). w.lane) (λ (w : Waiter). w.index) given a.packets lines)
    ∙ fuse (marked (is_waiting ws) given) (marked (among (λ (w : Waiter). w.lane) (λ (w : Waiter). w.index) a.packets) given) (marked (is_waiting (a ∷ ws)) given)
    (λ f. mark_twice (is_waiting ws) given (among (λ (w : Waiter). w.lane) (λ (w : Waiter). w.index) a.packets f.lane f.index) f) lines
