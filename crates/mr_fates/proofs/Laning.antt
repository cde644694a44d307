-- A lane's lines are no more than its packets, and their indexes no higher than its last one.
use Rattle.std.proofs.Common.{◌≡◌, ℕ, ◌+◌, ◌<◌, ◌≤◌, ◌==◌, Bool, true, false, cond, if◌then◌else◌, List, [], ◌∷◌, ◌++◌, sym, ap, ◌∙◌, subst, arith}
use Rattle.std.specs.List.{AllByRecursion}
use Rattle.std.proofs.lemmas.List.Sums.{sum_by-cons}
use Rattle.mr_base.specs.declared.numbers.LaneNo.{LaneNo}
use Rattle.mr_model.specs.declared.ending.FateLine.{FateLine}
use Rattle.mr_model.specs.declared.entry.Entry.{Entry}
use Rattle.mr_model.specs.declared.entry.Entry.TheVariants.{Slow}
use Rattle.mr_model.specs.declared.limits.Limits.{Limits}
use Rattle.mr_model.specs.declared.outcome.Outcome.TheVariants.{Parked}
use Rattle.mr_model.specs.Fate.{fates_of, fates}
use Rattle.mr_model.specs.Legal.{IsLegal}
use Rattle.mr_model.specs.Past.{is_of_lane, packets_in, packets, last_index}
use Rattle.mr_model.proofs.Induction.{legal_induction, index_rises}
use Rattle.mr_model.proofs.PushingLists.{last_index_push}
use Rattle.mr_fates.specs.Lines.{lane_count, IsNext}
use Rattle.mr_fates.proofs.Ending.{fates_end}
use Rattle.mr_fates.proofs.Located.{tally, tally_counts}

more_packets : (lane : LaneNo) (e : Entry) (es : List Entry)
    → packets lane (e ∷ es) ≡ (if is_of_lane lane e then packets_in e else 0) + packets lane es
more_packets lane e es = sum_by-cons (λ (x : Entry). if is_of_lane lane x then packets_in x else 0) e es

lines_fit : (limits : Limits) (k es : List Entry) (lane : LaneNo)
    → tally lane (fates_of limits k es) ≤ packets lane es
lines_fit limits k [] lane = omega arith
lines_fit limits k (Slow l index look flow Parked ∷ es) lane =
    let more : tally lane (fates_of limits k es) ≤ packets lane es = lines_fit limits k es lane in
    let all = more_packets lane (Slow l index look flow Parked) es in
    let here : cond (l.0 == lane.0) (1 + tally lane (fates_of limits k es)) (tally lane (fates_of limits k es)) ≤ (if l.0 == lane.0 then 1 else 0) + packets lane es =
    elim (l.0 == lane.0) as (λ b. cond b (1 + tally lane (fates_of limits k es)) (tally lane (fates_of limits k es)) ≤ (if b then 1 else 0) + packets lane es) [
      | true ↦ omega (arith, more)
      | false ↦ omega (arith, more)
    ] in
    omega (arith, all, here)
lines_fit limits k (e ∷ es) lane =
    let more : tally lane (fates_of limits k es) ≤ packets lane es = lines_fit limits k es lane in
    let all = more_packets lane e es in
    omega (arith, all, more)

pub lane_fits : (limits : Limits) (h : List Entry) (lane : LaneNo)
    → lane_count lane (fates limits h) ≤ packets lane h
lane_fits limits h lane =
    let few = lines_fit limits h h lane in
    omega (arith, few, tally_counts lane (fates limits h))

-- the lane's lines have indexes up to this one
abbrev UpTo : LaneNo → ℕ → List FateLine → Type 0
UpTo lane last lines = AllByRecursion (λ f. (f.lane.0 == lane.0) ≡ true → f.index ≤ last) lines

up_to_more : (lane : LaneNo) (m n : ℕ) (lines more : List FateLine) → m ≤ n → UpTo lane m lines
    → UpTo lane n more → UpTo lane n (lines ++ more)
up_to_more lane m n [] more le all last = last
up_to_more lane m n (f ∷ lines) more le all last = ((λ its. let here = all.0 its in omega (arith, here, le)), up_to_more lane m n lines more le all.1 last)

last_up_to : (limits : Limits) (k g : List Entry) (e : Entry) (lane : LaneNo)
    → UpTo lane (last_index lane (g ++ e ∷ [])) (fates_of limits k (e ∷ []))
last_up_to limits k g (Slow l index look flow Parked) lane = (
  (λ its.
      let is : last_index lane (g ++ Slow l index look flow Parked ∷ []) ≡ index =
      last_index_push lane g (Slow l index look flow Parked) ∙ ap (λ (b : Bool). if b then index else last_index lane g) its in
      omega (arith, is)),
  tt,
)
last_up_to limits k g e lane = tt

lines_up_to : (limits : Limits) (lane : LaneNo) (h : List Entry) → IsLegal limits h
    → (k : List Entry) → UpTo lane (last_index lane h) (fates_of limits k h)
lines_up_to limits lane h l =
    legal_induction limits (λ g. (k : List Entry) → UpTo lane (last_index lane g) (fates_of limits k g)) (λ k. tt)
    (λ g e legal a all k.
    subst (λ (ls : List FateLine). UpTo lane (last_index lane (g ++ e ∷ [])) ls) (sym (fates_end limits k g e))
    (up_to_more lane (last_index lane g) (last_index lane (g ++ e ∷ [])) (fates_of limits k g) (fates_of limits k (e ∷ [])) (index_rises limits g e lane a) (all k) (last_up_to limits k g e lane)))
    h l

next_above : (lane : LaneNo) (last index : ℕ) (lines : List FateLine) → last < index
    → UpTo lane last lines → IsNext lane index lines
next_above lane last index [] above all = tt
next_above lane last index (f ∷ lines) above all = ((λ its. let here = all.0 its in omega (arith, here, above)), next_above lane last index lines above all.1)

pub lane_next : (limits : Limits) (h : List Entry) (lane : LaneNo) (index : ℕ) → IsLegal limits h
    → last_index lane h < index → IsNext lane index (fates limits h)
lane_next limits h lane index l above = next_above lane (last_index lane h) index (fates limits h) above (lines_up_to limits lane h l h)
