-- The places of a lane's lines among all lines.
use Rattle.std.proofs.Common.{◌≡◌, ℕ, suc, ◌+◌, ◌-◌, ◌<◌, ◌≤◌, ◌==◌, ◌&&◌, Bool, true, false, [], ◌∷◌, ◌++◌, List, length, map, slice_set, slice_index_or, Option, Some, None, if◌then◌else◌, cond, refl, sym, ap, ◌∙◌, subst, arith}
use Rattle.std.specs.Prelude.{find, option_map}
use Rattle.std.specs.List.{AllByRecursion}
use Rattle.std.proofs.lemmas.Bool.{ne_eqb, eqb-true, and_from}
use Rattle.std.proofs.lemmas.Option.{same_Some}
use Rattle.std.proofs.lemmas.List.Recursion.{is_count_by}
use Rattle.mr_base.specs.declared.numbers.LaneNo.{LaneNo}
use Rattle.mr_model.specs.declared.ending.Fate.{Fate}
use Rattle.mr_model.specs.declared.ending.FateLine.{FateLine}
use Rattle.mr_laws.specs.Once.{is_line_of}
use Rattle.mr_fates.specs.declared.lane.Place.{Place}
use Rattle.mr_fates.specs.Lanes.{IsRising, line_in, places_from}
use Rattle.mr_fates.specs.Lines.{ended_line, ended, fate_in_lines, lane_count, IsNext}
use Rattle.mr_fates.specs.Keeping.{HasNone, StandsAlone}
use Rattle.mr_fates.proofs.Searching.{rising_tail, head_below, above_none}

-- the place of one more line, if it is the lane's
abbrev pub place_of : ℕ → ℕ → FateLine → List Place
place_of n at f = if f.lane.0 == n then record { index = f.index; line = at } ∷ [] else []

pub places_push : (n from : ℕ) (lines : List FateLine) (f : FateLine)
    → places_from n from (lines ++ f ∷ []) ≡ places_from n from lines ++ place_of n (from + length lines) f
places_push n from [] f =
    let at : from + 0 ≡ from = omega arith in
    rw at refl
places_push n from (g ∷ lines) f =
    let at : from + 1 + length lines ≡ from + suc (length lines) = omega arith in
    let more : places_from n (from + 1) (lines ++ f ∷ []) ≡ places_from n (from + 1) lines ++ place_of n (from + suc (length lines)) f =
    places_push n (from + 1) lines f ∙ ap (λ (k : ℕ). places_from n (from + 1) lines ++ place_of n k f) at in
    elim (g.lane.0 == n) as (λ b. (if b then record { index = g.index; line = from } ∷ places_from n (from + 1) (lines ++ f ∷ []) else places_from n (from + 1) (lines ++ f ∷ [])) ≡ (if b then record { index = g.index; line = from } ∷ places_from n (from + 1) lines else places_from n (from + 1) lines) ++ place_of n (from + suc (length lines)) f) [
      | true ↦ ap (λ (ps : List Place). record { index = g.index; line = from } ∷ ps) more
      | false ↦ more
    ]

-- a fate moves no place
pub places_ended : (n from : ℕ) (lane : LaneNo) (index : ℕ) (fate : Fate) (lines : List FateLine)
    → places_from n from (ended lane index fate lines) ≡ places_from n from lines
places_ended n from lane index fate [] = refl
places_ended n from lane index fate (f ∷ lines) =
    let more = places_ended n (from + 1) lane index fate lines in
    elim (is_line_of lane index f) as (λ b. places_from n from ((if b then record f { fate = fate } else f) ∷ ended lane index fate lines) ≡ places_from n from (f ∷ lines)) [
      | true ↦ rw more refl
      | false ↦ rw more refl
    ]

pub owned_ended : (most : ℕ) (lane : LaneNo) (index : ℕ) (fate : Fate) (lines : List FateLine)
    → AllByRecursion (λ f. (1 ≤ f.lane.0) × (f.lane.0 ≤ most)) lines
    → AllByRecursion (λ f. (1 ≤ f.lane.0) × (f.lane.0 ≤ most)) (ended lane index fate lines)
owned_ended most lane index fate [] all = tt
owned_ended most lane index fate (f ∷ lines) all =
    let more = owned_ended most lane index fate lines all.1 in
    elim (is_line_of lane index f) as (λ b. AllByRecursion (λ g. (1 ≤ g.lane.0) × (g.lane.0 ≤ most)) ((if b then record f { fate = fate } else f) ∷ ended lane index fate lines)) [
      | true ↦ (all.0, more)
      | false ↦ (all.0, more)
    ]

-- lines without the packet's stay
pub ended_none : (lane : LaneNo) (index : ℕ) (fate : Fate) (lines : List FateLine)
    → HasNone lane index lines → ended lane index fate lines ≡ lines
ended_none lane index fate [] none = refl
ended_none lane index fate (f ∷ lines) none = rw none.0 (ap (λ (ls : List FateLine). f ∷ ls) (ended_none lane index fate lines none.1))

pub map_append : {X Y : Type 0} (g : X → Y) (xs ys : List X)
    → map g (xs ++ ys) ≡ map g xs ++ map g ys
map_append g [] ys = refl
map_append g (x ∷ xs) ys = ap (λ (zs : List _). g x ∷ zs) (map_append g xs ys)

set_between : (before : List FateLine) (f g : FateLine) (after : List FateLine)
    → slice_set (before ++ f ∷ after) (length before) g ≡ before ++ g ∷ after
set_between [] f g after = refl
set_between (b ∷ before) f g after = ap (λ (ls : List FateLine). b ∷ ls) (set_between before f g after)

-- the packet's line is set
pub set_alone : (lane : LaneNo) (index : ℕ) (fate : Fate) (lines : List FateLine) (n : ℕ) (s : StandsAlone lane index lines n)
    → slice_set lines n (record s.line { fate = fate }) ≡ ended lane index fate lines
set_alone lane index fate lines n s =
    let new : FateLine = record s.line { fate = fate } in
    let here : ended_line lane index fate s.line ≡ new = rw s.is_its refl in
    let set : slice_set lines n new ≡ s.before ++ new ∷ s.after =
    subst (λ (k : ℕ). slice_set lines k new ≡ s.before ++ new ∷ s.after) s.place
    (subst (λ (ls : List FateLine). slice_set ls (length s.before) new ≡ s.before ++ new ∷ s.after) (sym s.whole) (set_between s.before s.line new s.after)) in
    let all : ended lane index fate (s.before ++ s.line ∷ s.after) ≡ s.before ++ new ∷ s.after =
    map_append (ended_line lane index fate) s.before (s.line ∷ s.after)
    ∙ ap (λ (ls : List FateLine). ls ++ ended_line lane index fate s.line ∷ ended lane index fate s.after) (ended_none lane index fate s.before s.none_before)
    ∙ ap (λ (f : FateLine). s.before ++ f ∷ ended lane index fate s.after) here
    ∙ ap (λ (ls : List FateLine). s.before ++ new ∷ ls) (ended_none lane index fate s.after s.none_after) in
    set ∙ sym (ap (λ (ls : List FateLine). ended lane index fate ls) s.whole ∙ all)

not_its : (a b : Bool) → a ≡ false → (a && b) ≡ false
not_its a b p = rw p refl

nor_its : (a b : Bool) → b ≡ false → (a && b) ≡ false
nor_its true b p = p
nor_its false b p = refl

-- where no place of the lane has the index, no line is the packet's
pub none_placed : (lane : LaneNo) (index from : ℕ) (lines : List FateLine)
    → line_in (places_from lane.0 from lines) index ≡ None → HasNone lane index lines
none_placed lane index from [] none = tt
none_placed lane index from (f ∷ lines) none = by (f.lane.0 == lane.0) refl (f.index == index) refl none (λ miss. none_placed lane index (from + 1) lines miss)
  where
    rest : List Place
    rest = places_from lane.0 (from + 1) lines

    by : (a : Bool) → (f.lane.0 == lane.0) ≡ a → (b : Bool) → (f.index == index) ≡ b
        → line_in (if a then record { index = f.index; line = from } ∷ rest else rest) index ≡ None
        → (line_in rest index ≡ None → HasNone lane index lines)
        → HasNone lane index (f ∷ lines)
    by true p true q miss more = absurd (found from (rw q at miss))
      where
        found : (n : ℕ) → Some n ≡ None → ⊥
        found n same = cc
    by true p false q miss more = (nor_its (f.lane.0 == lane.0) (f.index == index) q, more (rw q at miss))
    by false p b q miss more = (not_its (f.lane.0 == lane.0) (f.index == index) p, more miss)

-- where one has it, the line that stands there is the packet's, and no other
pub alone_placed : (lane : LaneNo) (index from : ℕ) (lines : List FateLine) (m : ℕ)
    → IsRising (places_from lane.0 from lines)
    → line_in (places_from lane.0 from lines) index ≡ Some m
    → (from ≤ m) × StandsAlone lane index lines (m - from)
alone_placed lane index from [] m rising is = absurd (cc)
alone_placed lane index from (f ∷ lines) m rising is =
    by (f.lane.0 == lane.0) refl (f.index == index) refl rising is (λ r i. alone_placed lane index (from + 1) lines m r i)
  where
    rest : List Place
    rest = places_from lane.0 (from + 1) lines

    here : Place
    here = record { index = f.index; line = from }

    behind : is_line_of lane index f ≡ false → (from + 1 ≤ m) × StandsAlone lane index lines (m - (from + 1))
        → (from ≤ m) × StandsAlone lane index (f ∷ lines) (m - from)
    behind other more =
        let s = more.1 in
        let place : suc (length s.before) ≡ m - from = omega (arith, s.place, more.0) in (
          omega (arith, more.0),
          record {
            before = f ∷ s.before;
            line = s.line;
            after = s.after;
            whole = ap (λ (ls : List FateLine). f ∷ ls) s.whole;
            place = place;
            is_its = s.is_its;
            none_before = (other, s.none_before);
            none_after = s.none_after;
          },
        )

    by : (a : Bool) → (f.lane.0 == lane.0) ≡ a → (b : Bool) → (f.index == index) ≡ b
        → IsRising (if a then here ∷ rest else rest)
        → line_in (if a then here ∷ rest else rest) index ≡ Some m
        → (IsRising rest → line_in rest index ≡ Some m → (from + 1 ≤ m) × StandsAlone lane index lines (m - (from + 1)))
        → (from ≤ m) × StandsAlone lane index (f ∷ lines) (m - from)
    by true p true q up found more =
        let at : from ≡ m = same_Some from m (rw q at found) in
        let index_is : f.index ≡ index = eqb-true f.index index q in
        let above : AllByRecursion (λ r. index < r.index) rest = subst (λ (k : ℕ). AllByRecursion (λ r. k < r.index) rest) index_is (head_below here rest up) in
        let place : 0 ≡ m - from = omega (arith, at) in (
          omega (arith, at),
          record {
            before = [];
            line = f;
            after = lines;
            whole = refl;
            place = place;
            is_its = and_from (f.lane.0 == lane.0) (f.index == index) p q;
            none_before = tt;
            none_after = none_placed lane index (from + 1) lines (above_none index rest above);
          },
        )
    by true p false q up found more =
        behind (nor_its (f.lane.0 == lane.0) (f.index == index) q) (more (rising_tail here rest up) (rw q at found))
    by false p b q up found more = behind (not_its (f.lane.0 == lane.0) (f.index == index) p) (more up found)

-- no line is that of a lane which none is of
pub none_of_lane : (most : ℕ) (lane : LaneNo) (index : ℕ) (lines : List FateLine)
    → AllByRecursion (λ f. (1 ≤ f.lane.0) × (f.lane.0 ≤ most)) lines
    → (1 ≤ lane.0 → lane.0 ≤ most → ⊥) → HasNone lane index lines
none_of_lane most lane index [] all out = tt
none_of_lane most lane index (f ∷ lines) all out =
    let other : (f.lane.0 == lane.0) ≡ false = ne_eqb f.lane.0 lane.0 (λ same. out (omega (arith, all.0.0, same)) (omega (arith, all.0.1, same))) in
    (not_its (f.lane.0 == lane.0) (f.index == index) other, none_of_lane most lane index lines all.1 out)

-- an index above those of the lane's lines is above those of its places
pub above_placed : (lane : LaneNo) (index from : ℕ) (lines : List FateLine)
    → IsNext lane index lines
    → AllByRecursion (λ p. p.index < index) (places_from lane.0 from lines)
above_placed lane index from [] next = tt
above_placed lane index from (f ∷ lines) next = by (f.lane.0 == lane.0) next.0 (above_placed lane index (from + 1) lines next.1)
  where
    by : (a : Bool) → (a ≡ true → f.index < index) → AllByRecursion (λ p. p.index < index) (places_from lane.0 (from + 1) lines)
        → AllByRecursion (λ p. p.index < index) (if a then record { index = f.index; line = from } ∷ places_from lane.0 (from + 1) lines else places_from lane.0 (from + 1) lines)
    by true below more = (below refl, more)
    by false below more = more

-- a lane has as many places as lines
abbrev pub tally : LaneNo → List FateLine → ℕ
tally lane [] = 0
tally lane (f ∷ lines) = cond (f.lane.0 == lane.0) (1 + tally lane lines) (tally lane lines)

tallied : (lane : LaneNo) (from : ℕ) (lines : List FateLine)
    → length (places_from lane.0 from lines) ≡ tally lane lines
tallied lane from [] = refl
tallied lane from (f ∷ lines) =
    let more : length (places_from lane.0 (from + 1) lines) ≡ tally lane lines = tallied lane (from + 1) lines in
    elim (f.lane.0 == lane.0) as (λ b. length (if b then record { index = f.index; line = from } ∷ places_from lane.0 (from + 1) lines else places_from lane.0 (from + 1) lines) ≡ cond b (1 + tally lane lines) (tally lane lines)) [
      | true ↦ omega (arith, more)
      | false ↦ more
    ]

pub tally_counts : (lane : LaneNo) (lines : List FateLine)
    → tally lane lines ≡ lane_count lane lines
tally_counts lane lines = is_count_by (tally lane) (λ f. f.lane.0 == lane.0) refl (λ f fs. refl) lines

pub places_counted : (lane : LaneNo) (lines : List FateLine)
    → length (places_from lane.0 0 lines) ≡ lane_count lane lines
places_counted lane lines = tallied lane 0 lines ∙ tally_counts lane lines

-- the line that stands at that place
line_there : (before : List FateLine) (f d : FateLine) (after : List FateLine)
    → d ≡ slice_index_or (before ++ f ∷ after) (length before) d → d ≡ f
line_there [] f d after is = is
line_there (b ∷ before) f d after is = line_there before f d after is

pub alone_is : (lane : LaneNo) (index : ℕ) (lines : List FateLine) (n : ℕ) (s : StandsAlone lane index lines n) (d : FateLine)
    → d ≡ slice_index_or lines n d → d ≡ s.line
alone_is lane index lines n s d is =
    line_there s.before s.line d s.after
    (subst (λ (ls : List FateLine). d ≡ slice_index_or ls (length s.before) d) s.whole (subst (λ (k : ℕ). d ≡ slice_index_or lines k d) (sym s.place) is))

-- the packet's line gets its fate
pub end_alone : (lane : LaneNo) (index : ℕ) (fate : Fate) (lines : List FateLine) (n : ℕ) (s : StandsAlone lane index lines n) (d : FateLine)
    → d ≡ slice_index_or lines n d
    → slice_set lines n (record d { fate = fate }) ≡ ended lane index fate lines
end_alone lane index fate lines n s d is =
    ap (λ (f : FateLine). slice_set lines n (record f { fate = fate })) (alone_is lane index lines n s d is) ∙ set_alone lane index fate lines n s

find_none : (lane : LaneNo) (index : ℕ) (lines : List FateLine) → HasNone lane index lines
    → find (is_line_of lane index) lines ≡ None
find_none lane index [] none = refl
find_none lane index (f ∷ lines) none = rw none.0 (find_none lane index lines none.1)

pub no_fate : (lane : LaneNo) (index : ℕ) (lines : List FateLine) → HasNone lane index lines
    → fate_in_lines lane index lines ≡ None
no_fate lane index lines none = ap (λ (o : Option FateLine). option_map (λ f. f.fate) o) (find_none lane index lines none)

find_first : (lane : LaneNo) (index : ℕ) (before : List FateLine) (f : FateLine) (after : List FateLine)
    → HasNone lane index before → is_line_of lane index f ≡ true
    → find (is_line_of lane index) (before ++ f ∷ after) ≡ Some f
find_first lane index [] f after none its = rw its refl
find_first lane index (b ∷ before) f after none its = rw none.0 (find_first lane index before f after none.1 its)

pub alone_fate : (lane : LaneNo) (index : ℕ) (lines : List FateLine) (n : ℕ) (s : StandsAlone lane index lines n)
    → fate_in_lines lane index lines ≡ Some s.line.fate
alone_fate lane index lines n s =
    ap (λ (ls : List FateLine). fate_in_lines lane index ls) s.whole
    ∙ ap (λ (o : Option FateLine). option_map (λ f. f.fate) o) (find_first lane index s.before s.line s.after s.none_before s.is_its)
