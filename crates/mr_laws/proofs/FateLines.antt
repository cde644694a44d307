-- The lines of an ending's fates: one for each packet that was parked, with the fate that holds of it.
use Rattle.std.proofs.Common.{◌≡◌, ℕ, ◌+◌, ◌<◌, ◌≤◌, ◌==◌, ◌&&◌, ◌||◌, nat_lt, Bool, true, if◌then◌else◌, List, [], ◌∷◌, count_by, refl, sym, ap, ◌∙◌, ◌⊎◌, inl, inr, arith, eq-eqb}
use Rattle.std.proofs.lemmas.Bool.{or_left, or_right, and_from, cases_lt, lt-ltb, le-ltb}
use Rattle.std.proofs.lemmas.List.Recursion.{is_count_by}
use Rattle.std.specs.List.{AllByRecursion}
use Rattle.mr_base.specs.declared.numbers.LaneNo.{LaneNo}
use Rattle.mr_model.specs.declared.ending.FateLine.{FateLine}
use Rattle.mr_model.specs.declared.entry.Entry.{Entry}
use Rattle.mr_model.specs.declared.entry.Entry.TheVariants.{Slow}
use Rattle.mr_model.specs.declared.limits.Limits.{Limits}
use Rattle.mr_model.specs.declared.outcome.Outcome.TheVariants.{Parked}
use Rattle.mr_model.specs.Fate.{IsFate, fates_of, fates, parks, was_parked}
use Rattle.mr_model.specs.Legal.{IsLegal}
use Rattle.mr_laws.specs.Once.{is_line_of, times_parked}
use Rattle.mr_laws.proofs.Counting.{one, positive}
use Rattle.mr_laws.proofs.Once.{one_more, parked_once}
use Rattle.mr_laws.proofs.OneFate.{fate_has}

-- the packets that the entries es parked were parked in h
abbrev Within : List Entry → List Entry → Type 0
Within es h = (lane : LaneNo) (index : ℕ) → was_parked es lane index ≡ true → was_parked h lane index ≡ true

lines_hold : (limits : Limits) (h es : List Entry) → IsLegal limits h → Within es h → AllByRecursion (λ x. IsFate limits h x.lane x.index x.fate) (fates_of limits h es)
lines_hold limits h [] l w = tt
lines_hold limits h (Slow lane index look flow Parked ∷ es) l w =
    let here : parks (Slow lane index look flow Parked) lane index ≡ true =
    and_from (lane.0 == lane.0) (index == index) (eq-eqb lane.0 lane.0 refl) (eq-eqb index index refl) in (
      fate_has limits lane index h l (w lane index (or_left (parks (Slow lane index look flow Parked) lane index) (was_parked es lane index) here)),
      lines_hold limits h es l (λ m i p. w m i (or_right (parks (Slow lane index look flow Parked) m i) (was_parked es m i) p)),
    )
lines_hold limits h (e ∷ es) l w = lines_hold limits h es l (λ m i p. w m i (or_right (parks e m i) (was_parked es m i) p))

pub fates_hold : (limits : Limits) (h : List Entry) → IsLegal limits h → AllByRecursion (λ x. IsFate limits h x.lane x.index x.fate) (fates limits h)
fates_hold limits h l = lines_hold limits h h l (λ lane index p. p)

-- how many lines a packet has, and how often it was parked
abbrev own_lines : LaneNo → ℕ → List FateLine → ℕ
own_lines lane index [] = 0
own_lines lane index (x ∷ xs) = one (is_line_of lane index x) + own_lines lane index xs

abbrev parkings : LaneNo → ℕ → List Entry → ℕ
parkings lane index [] = 0
parkings lane index (e ∷ es) = one (parks e lane index) + parkings lane index es

counted_lines : (lane : LaneNo) (index : ℕ) (xs : List FateLine) → own_lines lane index xs ≡ count_by (is_line_of lane index) xs
counted_lines lane index xs =
    is_count_by (own_lines lane index) (is_line_of lane index) refl
    (λ y ys. one_more (is_line_of lane index y) (own_lines lane index ys)) xs

counted_parkings : (lane : LaneNo) (index : ℕ) (es : List Entry) → parkings lane index es ≡ times_parked lane index es
counted_parkings lane index es =
    is_count_by (parkings lane index) (λ e. parks e lane index) refl
    (λ y ys. one_more (parks y lane index) (parkings lane index ys)) es

lines_as_parked : (limits : Limits) (h es : List Entry) (lane : LaneNo) (index : ℕ) → own_lines lane index (fates_of limits h es) ≡ parkings lane index es
lines_as_parked limits h [] lane index = refl
lines_as_parked limits h (Slow l i look flow Parked ∷ es) lane index =
    ap (λ (n : ℕ). one (l.0 == lane.0 && i == index) + n) (lines_as_parked limits h es lane index)
lines_as_parked limits h (e ∷ es) lane index =
    let more : own_lines lane index (fates_of limits h es) ≡ parkings lane index es = lines_as_parked limits h es lane index in
    omega (arith, more)

was_parked_times : (lane : LaneNo) (index : ℕ) (es : List Entry) → was_parked es lane index ≡ nat_lt 0 (parkings lane index es)
was_parked_times lane index [] = refl
was_parked_times lane index (e ∷ es) =
    ap (λ (b : Bool). parks e lane index || b) (was_parked_times lane index es) ∙ positive (parks e lane index) (parkings lane index es)

at_most_one : (n : ℕ) → n ≤ 1 → n ≡ (if nat_lt 0 n then 1 else 0)
at_most_one n p = by (cases_lt 0 n)
  where
    by : (0 < n) ⊎ (n ≤ 0) → n ≡ (if nat_lt 0 n then 1 else 0)
    by (inl some) = rw (lt-ltb 0 n some) (omega (arith, p, some))
    by (inr none) = rw (le-ltb 0 n none) (omega (arith, none))

pub one_line : (limits : Limits) (h : List Entry) (lane : LaneNo) (index : ℕ) → IsLegal limits h → count_by (is_line_of lane index) (fates limits h) ≡ (if was_parked h lane index then 1 else 0)
one_line limits h lane index l =
    let counted = counted_parkings lane index h in
    let once = parked_once limits h lane index l in
    let most : parkings lane index h ≤ 1 = omega (arith, counted, once) in
    sym (counted_lines lane index (fates limits h))
    ∙ lines_as_parked limits h h lane index
    ∙ at_most_one (parkings lane index h) most
    ∙ ap (λ (b : Bool). if b then 1 else 0) (sym (was_parked_times lane index h))
