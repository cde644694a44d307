-- What an edit of the lines and of the lanes' places keeps of the fields.
use Rattle.std.proofs.Common.{◌≡◌, ℕ, zero, suc, ◌+◌, ◌-◌, ◌<◌, ◌≤◌, ◌==◌, true, false, [], ◌∷◌, ◌++◌, List, length, map, take, slice_get, slice_set, slice_index, slice_index_or, sum_by, Some, None, refl, sym, ap, ◌∙◌, subst, ◌⊎◌, inl, inr, arith}
use Rattle.std.specs.List.{AllByRecursion}
use Rattle.std.proofs.lemmas.Bool.{eq-eqb, ne_eqb}
use Rattle.std.proofs.lemmas.Option.{same_Some}
use Rattle.std.proofs.lemmas.List.{length-append, length-map}
use Rattle.std.proofs.lemmas.List.Sums.{sum_by-cons}
use Rattle.mr_base.specs.declared.numbers.LaneNo.{LaneNo}
use Rattle.mr_model.specs.declared.ending.Fate.{Fate}
use Rattle.mr_model.specs.declared.ending.FateLine.{FateLine}
use Rattle.mr_fates.specs.declared.fates.TheConstants.{MOST_PACKETS}
use Rattle.mr_fates.specs.declared.lane.Place.{Place}
use Rattle.mr_fates.specs.Lanes.{PlaceList, IsRising, line_in, places_from}
use Rattle.mr_fates.specs.Lines.{FateList, waiting_line, ended, lane_count, IsNext}
use Rattle.mr_fates.specs.Keeping.{IsLaneOf, IsKept, HasNone, StandsAlone}
use Rattle.mr_fates.proofs.Located.{map_append, place_of, places_push, places_ended, owned_ended, none_placed, alone_placed, none_of_lane, above_placed, places_counted}

-- a lane by its place, where there is one
pub get_at : (lanes : List PlaceList) (i : ℕ) (d : PlaceList) → i < length lanes
    → d ≡ slice_index_or lanes i d → slice_get lanes i ≡ Some d
get_at [] i d within is = absurd (omega (arith, within))
get_at (l ∷ lanes) zero d within is = ap (λ (x : PlaceList). Some x) (sym is)
get_at (l ∷ lanes) (suc i) d within is = get_at lanes i d (omega (arith, within)) is

pub room_at : (lanes : List PlaceList) (i : ℕ) (d : PlaceList) → slice_get lanes i ≡ Some d
    → slice_index (map (λ l. l.room) lanes) i ≡ d.room
room_at [] i d at = absurd (cc)
room_at (l ∷ lanes) zero d at = ap (λ (x : PlaceList). x.room) (same_Some l d at)
room_at (l ∷ lanes) (suc i) d at = room_at lanes i d at

pub rooms_set : (lanes : List PlaceList) (i : ℕ) (d e : PlaceList) → slice_get lanes i ≡ Some d
    → e.room ≡ d.room → map (λ l. l.room) (slice_set lanes i e) ≡ map (λ l. l.room) lanes
rooms_set [] i d e at same = absurd (cc)
rooms_set (l ∷ lanes) zero d e at same =
    ap (λ (n : ℕ). n ∷ map (λ x. x.room) lanes) (same ∙ sym (ap (λ (x : PlaceList). x.room) (same_Some l d at)))
rooms_set (l ∷ lanes) (suc i) d e at same = ap (λ (ns : List ℕ). l.room ∷ ns) (rooms_set lanes i d e at same)

sum_set : (f : PlaceList → ℕ) (lanes : List PlaceList) (i : ℕ) (d e : PlaceList)
    → slice_get lanes i ≡ Some d → sum_by f (slice_set lanes i e) + f d ≡ sum_by f lanes + f e
sum_set f [] i d e at = absurd (cc)
sum_set f (l ∷ lanes) zero d e at =
    let here : f l ≡ f d = ap f (same_Some l d at) in
    let old = sum_by-cons f l lanes in
    let new = sum_by-cons f e lanes in
    omega (arith, here, old, new)
sum_set f (l ∷ lanes) (suc i) d e at =
    let more = sum_set f lanes i d e at in
    let old = sum_by-cons f l lanes in
    let new = sum_by-cons f l (slice_set lanes i e) in
    omega (arith, more, old, new)

-- each lane has as many places as there is room for
abbrev AllFit : List PlaceList → Type 0
AllFit lanes = (i : ℕ) (l : PlaceList) → slice_get lanes i ≡ Some l → length l.places ≤ l.room

sums_fit : (lanes : List PlaceList) → AllFit lanes
    → sum_by (λ l. length l.places) lanes ≤ sum_by (λ l. l.room) lanes
sums_fit [] fit = omega arith
sums_fit (l ∷ lanes) fit =
    let here = fit 0 l refl in
    let more = sums_fit lanes (λ i m at. fit (suc i) m at) in
    omega (arith, here, more, sum_by-cons (λ (x : PlaceList). length x.places) l lanes, sum_by-cons (λ (x : PlaceList). x.room) l lanes)

sums_below : (lanes : List PlaceList) (i : ℕ) (d : PlaceList) → AllFit lanes
    → slice_get lanes i ≡ Some d → length d.places < d.room
    → sum_by (λ l. length l.places) lanes < sum_by (λ l. l.room) lanes
sums_below [] i d fit at below = absurd (cc)
sums_below (l ∷ lanes) zero d fit at below =
    let here : length l.places < l.room = subst (λ (x : PlaceList). length x.places < x.room) (sym (same_Some l d at)) below in
    let more = sums_fit lanes (λ i m there. fit (suc i) m there) in
    omega (arith, here, more, sum_by-cons (λ (x : PlaceList). length x.places) l lanes, sum_by-cons (λ (x : PlaceList). x.room) l lanes)
sums_below (l ∷ lanes) (suc i) d fit at below =
    let here = fit 0 l refl in
    let more = sums_below lanes i d (λ j m there. fit (suc j) m there) at below in
    omega (arith, here, more, sum_by-cons (λ (x : PlaceList). length x.places) l lanes, sum_by-cons (λ (x : PlaceList). x.room) l lanes)

-- where a lane has room, there is room for one more line
pub below_rooms : (lines : List FateLine) (lanes : List PlaceList) (capacity i : ℕ) (d : PlaceList)
    → IsKept lines lanes capacity → slice_get lanes i ≡ Some d → length d.places < d.room
    → length lines < sum_by (λ l. l.room) lanes
below_rooms lines lanes capacity i d kept at below =
    let less = sums_below lanes i d (λ j m there. (kept.each j m there).fit) at below in
    omega (arith, less, kept.counted)

get_set : (lanes : List PlaceList) (i j : ℕ) (e m : PlaceList)
    → slice_get (slice_set lanes i e) j ≡ Some m
    → ((j ≡ i) × (e ≡ m)) ⊎ ((j ≡ i → ⊥) × (slice_get lanes j ≡ Some m))
get_set [] i j e m at = absurd (cc)
get_set (l ∷ lanes) zero zero e m at = inl (refl, same_Some e m at)
get_set (l ∷ lanes) zero (suc j) e m at = inr (λ same. omega (arith, same), at)
get_set (l ∷ lanes) (suc i) zero e m at = inr (λ same. omega (arith, same), at)
get_set (l ∷ lanes) (suc i) (suc j) e m at = elim (get_set lanes i j e m at) [
  | inl here ↦ inl (ap suc here.0, here.1)
  | inr there ↦ inr (λ same. there.0 (omega (arith, same)), there.1)
]

length_set : (lanes : List PlaceList) (i : ℕ) (e : PlaceList)
    → length (slice_set lanes i e) ≡ length lanes
length_set [] i e = refl
length_set (l ∷ lanes) zero e = refl
length_set (l ∷ lanes) (suc i) e = ap suc (length_set lanes i e)

pub all_push : {X : Type 0} (P : X → Type 0) (xs : List X) (x : X) → AllByRecursion P xs → P x
    → AllByRecursion P (xs ++ x ∷ [])
all_push P [] x all one = (one, tt)
all_push P (y ∷ xs) x all one = (all.0, all_push P xs x all.1 one)

-- a lane once a line of its own was added at a place
abbrev pub with_place : PlaceList → ℕ → ℕ → PlaceList
with_place d index line = record d { places = d.places ++ record { index = index; line = line } ∷ [] }

pub kept_push : (lines : List FateLine) (lanes : List PlaceList) (capacity i : ℕ) (lane : LaneNo) (index : ℕ) (d : PlaceList)
    → lane.0 ≡ i + 1 → i < length lanes
    → slice_get lanes i ≡ Some d → length d.places < d.room → IsKept lines lanes capacity
    → IsKept (lines ++ waiting_line lane index ∷ []) (slice_set lanes i (with_place d index (length lines))) capacity
kept_push lines lanes capacity i lane index d number within at below kept = record {
  each = λ j m there. elim (get_set lanes i j new m there) [
    | inl here ↦ subst (λ (x : PlaceList). IsLaneOf after (j + 1) x) here.1 (subst (λ (k : ℕ). IsLaneOf after (k + 1) new) (sym here.0) own)
    | inr other ↦ stays j m other.0 other.1
  ];
  owned = subst (λ (k : ℕ). AllByRecursion (λ f. (1 ≤ f.lane.0) × (f.lane.0 ≤ k)) after) (sym (length_set lanes i new))
      (all_push (λ f. (1 ≤ f.lane.0) × (f.lane.0 ≤ length lanes)) lines line kept.owned (omega (arith, number), omega (arith, number, within)));
  counted = let sums = sum_set (λ l. length l.places) lanes i d new at in
      omega (arith, sums, kept.counted, length-append lines (line ∷ []), longer);
  bounded = let sums = sum_set (λ l. l.room) lanes i d new at in omega (arith, sums, kept.bounded);
  has_room = let sums = sum_set (λ l. l.room) lanes i d new at in omega (arith, sums, kept.has_room);
}
  where
    line : FateLine
    line = waiting_line lane index

    after : List FateLine
    after = lines ++ line ∷ []

    new : PlaceList
    new = with_place d index (length lines)

    longer : length new.places ≡ length d.places + 1
    longer = length-append d.places (record { index = index; line = length lines } ∷ [])

    own : IsLaneOf after (i + 1) new
    own =
        let its : (lane.0 == i + 1) ≡ true = eq-eqb lane.0 (i + 1) number in
        let at_end : length lines ≡ 0 + length lines = omega arith in
        let one : record { index = index; line = length lines } ∷ [] ≡ place_of (i + 1) (0 + length lines) line =
        rw its (ap (λ (k : ℕ). record { index = index; line = k } ∷ []) at_end) in
        record {
          are = ap (λ (ps : List Place). ps ++ record { index = index; line = length lines } ∷ []) (kept.each i d at).are
              ∙ ap (λ (ps : List Place). places_from (i + 1) 0 lines ++ ps) one
              ∙ sym (places_push (i + 1) 0 lines line);
          fit = omega (arith, longer, below);
        }

    stays : (j : ℕ) (m : PlaceList) → (j ≡ i → ⊥) → slice_get lanes j ≡ Some m → IsLaneOf after (j + 1) m
    stays j m differs there =
        let other : (lane.0 == j + 1) ≡ false = ne_eqb lane.0 (j + 1) (λ same. differs (omega (arith, same, number))) in
        let none : place_of (j + 1) (0 + length lines) line ≡ [] = rw other refl in
        record {
          are = (kept.each j m there).are
              ∙ sym (append_none (places_from (j + 1) 0 lines))
              ∙ ap (λ (ps : List Place). places_from (j + 1) 0 lines ++ ps) (sym none)
              ∙ sym (places_push (j + 1) 0 lines line);
          fit = (kept.each j m there).fit;
        }
      where
        append_none : (ps : List Place) → ps ++ [] ≡ ps
        append_none [] = refl
        append_none (p ∷ ps) = ap (λ (qs : List Place). p ∷ qs) (append_none ps)

-- a fate keeps all
pub kept_ended : (lines : List FateLine) (lanes : List PlaceList) (capacity : ℕ) (lane : LaneNo) (index : ℕ) (fate : Fate)
    → IsKept lines lanes capacity → IsKept (ended lane index fate lines) lanes capacity
kept_ended lines lanes capacity lane index fate kept = record {
  each = λ i l at. record {
    are = (kept.each i l at).are ∙ sym (places_ended (i + 1) 0 lane index fate lines);
    fit = (kept.each i l at).fit;
  };
  owned = owned_ended (length lanes) lane index fate lines kept.owned;
  counted = same_length lines ∙ kept.counted;
  bounded = kept.bounded;
  has_room = kept.has_room;
}
  where
    same_length : (ls : List FateLine) → length (ended lane index fate ls) ≡ length ls
    same_length [] = refl
    same_length (f ∷ ls) = ap suc (same_length ls)

-- no line, and no place
pub kept_fresh : (lanes : List PlaceList) (capacity : ℕ)
    → AllByRecursion (λ l. l.places ≡ []) lanes → sum_by (λ l. l.room) lanes ≤ MOST_PACKETS
    → sum_by (λ l. l.room) lanes ≤ capacity → IsKept [] lanes capacity
kept_fresh lanes capacity fresh bounded fits = record {
  each = λ i l at. record { are = empty_at lanes i l fresh at; fit = shorter l (empty_at lanes i l fresh at) };
  owned = tt;
  counted = sym (none lanes fresh);
  bounded = bounded;
  has_room = fits;
}
  where
    empty_at : (ls : List PlaceList) (i : ℕ) (l : PlaceList) → AllByRecursion (λ x. x.places ≡ []) ls → slice_get ls i ≡ Some l → l.places ≡ []
    empty_at [] i l all at = absurd (cc)
    empty_at (m ∷ ls) zero l all at = subst (λ (x : PlaceList). x.places ≡ []) (same_Some m l at) all.0
    empty_at (m ∷ ls) (suc i) l all at = empty_at ls i l all.1 at

    shorter : (l : PlaceList) → l.places ≡ [] → length l.places ≤ l.room
    shorter l none = let zero_long : length l.places ≡ 0 = ap length none in omega (arith, zero_long)

    none : (ls : List PlaceList) → AllByRecursion (λ x. x.places ≡ []) ls → sum_by (λ l. length l.places) ls ≡ 0
    none [] all = refl
    none (l ∷ ls) all =
        let here : length l.places ≡ 0 = ap length all.0 in
        let more = none ls all.1 in
        omega (arith, here, more, sum_by-cons (λ (x : PlaceList). length x.places) l ls)

-- the rooms of one more lane
pub rooms_push : (packets : List ℕ) (i : ℕ) (old new : List PlaceList) (l : PlaceList)
    → i < length packets → new ≡ old ++ l ∷ []
    → l ≡ record { places = []; room = slice_index_or packets i 0 }
    → map (λ x. x.room) old ≡ take i packets → map (λ x. x.room) new ≡ take (i + 1) packets
rooms_push packets i old new l within pushed is rooms =
    ap (λ (ls : List PlaceList). map (λ x. x.room) ls) pushed
    ∙ map_append (λ x. x.room) old (l ∷ [])
    ∙ ap (λ (ns : List ℕ). ns ++ l.room ∷ []) rooms
    ∙ ap (λ (x : PlaceList). take i packets ++ x.room ∷ []) is
    ∙ sym (take_more packets i within)
  where
    take_more : (ns : List ℕ) (k : ℕ) → k < length ns → take (k + 1) ns ≡ take k ns ++ slice_index_or ns k 0 ∷ []
    take_more [] k lt = absurd (omega (arith, lt))
    take_more (n ∷ ns) zero lt = refl
    take_more (n ∷ ns) (suc k) lt =
        let plus : suc k + 1 ≡ suc (k + 1) = omega arith in
        rw plus (ap (λ (ms : List ℕ). n ∷ ms) (take_more ns k (omega (arith, lt))))

-- a lane's list tells where its lines stand
pub lane_placed : (lines : List FateLine) (lanes : List PlaceList) (capacity i : ℕ) (lane : LaneNo) (d : PlaceList)
    → lane.0 ≡ i + 1 → i < length lanes
    → d ≡ slice_index_or lanes i d → IsKept lines lanes capacity
    → d.places ≡ places_from lane.0 0 lines
lane_placed lines lanes capacity i lane d number within is kept =
    (kept.each i d (get_at lanes i d within is)).are ∙ ap (λ (n : ℕ). places_from n 0 lines) (sym number)

pub located_none : (lines : List FateLine) (lane : LaneNo) (index : ℕ) (places : List Place)
    → places ≡ places_from lane.0 0 lines → line_in places index ≡ None → HasNone lane index lines
located_none lines lane index places are none =
    none_placed lane index 0 lines (ap (λ (ps : List Place). line_in ps index) (sym are) ∙ none)

pub located_alone : (lines : List FateLine) (lane : LaneNo) (index m : ℕ) (places : List Place)
    → places ≡ places_from lane.0 0 lines → IsRising places → line_in places index ≡ Some m
    → StandsAlone lane index lines m
located_alone lines lane index m places are rising is =
    let found = alone_placed lane index 0 lines m (subst (λ (ps : List Place). IsRising ps) are rising) (ap (λ (ps : List Place). line_in ps index) (sym are) ∙ is) in
    let same : m - 0 ≡ m = omega arith in
    subst (λ (n : ℕ). StandsAlone lane index lines n) same found.1

-- a lane that is none of these has no line
pub located_out : (lines : List FateLine) (lanes : List PlaceList) (capacity : ℕ) (lane : LaneNo) (index : ℕ)
    → IsKept lines lanes capacity → (1 ≤ lane.0 → lane.0 ≤ length lanes → ⊥)
    → HasNone lane index lines
located_out lines lanes capacity lane index kept out = none_of_lane (length lanes) lane index lines kept.owned out

-- the most lines that there are
pub most_lines : (lines : List FateLine) (lanes : List PlaceList) (capacity : ℕ)
    → IsKept lines lanes capacity → length lines ≤ MOST_PACKETS
most_lines lines lanes capacity kept =
    let sums = sums_fit lanes (λ i l at. (kept.each i l at).fit) in
    omega (arith, sums, kept.counted, kept.bounded)

-- what is known of a lane d, which stands at place i, when a packet of it is parked
pub record Parking (lines : List FateLine) (lanes : List PlaceList) (lane : LaneNo) (index i : ℕ) (d : PlaceList) : Type 0 where
  pub number : lane.0 ≡ i + 1
  pub within : i < length lanes
  pub there : slice_get lanes i ≡ Some d
  pub below : length d.places < d.room
  pub above : AllByRecursion (λ p. p.index < index) d.places
  pub less : length lines < sum_by (λ l. l.room) lanes

pub parking : (lines : List FateLine) (lanes : List PlaceList) (capacity : ℕ) (v : FateList) (lane : LaneNo) (index : ℕ) (d : PlaceList)
    → record { lines = lines; packets = map (λ l. l.room) lanes } ≡ v → IsKept lines lanes capacity
    → 1 ≤ lane.0 → lane.0 ≤ length v.packets → IsNext lane index v.lines
    → lane_count lane v.lines < slice_index v.packets (lane.0 - 1)
    → d ≡ slice_index_or lanes (lane.0 - 1) d → Parking lines lanes lane index (lane.0 - 1) d
parking lines lanes capacity v lane index d view kept first last next room is =
    let i : ℕ = lane.0 - 1 in
    let number : lane.0 ≡ i + 1 = omega (arith, first) in
    let many : lane.0 ≤ length (map (λ l. l.room) lanes) = subst (λ (w : FateList). lane.0 ≤ length w.packets) (sym view) last in
    let within : i < length lanes = omega (arith, first, many, length-map lanes (λ (l : PlaceList). l.room)) in
    let there : slice_get lanes i ≡ Some d = get_at lanes i d within is in
    let are : d.places ≡ places_from lane.0 0 lines = lane_placed lines lanes capacity i lane d number within is kept in
    let left : lane_count lane lines < slice_index (map (λ l. l.room) lanes) i = subst (λ (w : FateList). lane_count lane w.lines < slice_index w.packets i) (sym view) room in
    let long : length d.places ≡ lane_count lane lines = ap length are ∙ places_counted lane lines in
    let below : length d.places < d.room = omega (arith, long, left, room_at lanes i d there) in
    let ahead : IsNext lane index lines = subst (λ (w : FateList). IsNext lane index w.lines) (sym view) next in
    record {
      number = number;
      within = within;
      there = there;
      below = below;
      above = subst (λ (ps : List Place). AllByRecursion (λ p. p.index < index) ps) (sym are) (above_placed lane index 0 lines ahead);
      less = below_rooms lines lanes capacity i d kept there below;
    }

-- more capacity keeps all
pub kept_within : (lines : List FateLine) (lanes : List PlaceList) (m n : ℕ) → m ≤ n
    → IsKept lines lanes m → IsKept lines lanes n
kept_within lines lanes m n le kept = record {
  each = kept.each;
  owned = kept.owned;
  counted = kept.counted;
  bounded = kept.bounded;
  has_room = omega (arith, le, kept.has_room);
}
