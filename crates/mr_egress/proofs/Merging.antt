-- Fast packets among the entries.
use Rattle.std.proofs.Common.{◌≡◌, refl, sym, ap, ◌∙◌, ℕ, zero, suc, ◌+◌, ◌<◌, ◌≤◌, ◌==◌, ◌&&◌, ◌⊎◌, inl, inr, not, eq-eqb, List, [], ◌∷◌, length, filter, get_or, take, drop, arith, add-one}
use Rattle.std.proofs.lemmas.Bool.{ne_eqb, cases_lt, lt-ltb, le-ltb}
use Rattle.std.proofs.lemmas.List.{get_or-drop}
use Rattle.std.proofs.lemmas.List.Elements.{filter_agree}
use Rattle.std.specs.List.Sorted.{IsNonDecreasingBy, IsStableByKey}
use Rattle.std.specs.Ordering.{nat_cmp, is_lt}
use Rattle.std.specs.List.{AllByRecursion}
use Rattle.mr_egress.proofs.Listing.{all_weaker}
use Rattle.mr_egress.specs.declared.fast.FastSent.{FastSent}
use Rattle.mr_egress.specs.FastOrder.{sees, AreSorted, AreFrom, SameFrom, IsFront}

-- where the first look is another, no packet has look n
pub from_next : (ps : List FastSent) (n : ℕ) (d : FastSent) → AreSorted ps → AreFrom n ps
    → ((get_or ps 0 d).look ≡ n → ⊥) → AreFrom (n + 1) ps
from_next [] n d sorted from other = tt
from_next (p ∷ ps) n d sorted from other =
    let least : n ≤ p.look = from.0 in
    let above : n + 1 ≤ p.look = by (cases_lt n p.look) in (
      above,
      all_weaker (λ q. p.look ≤ q.look) (λ q. n + 1 ≤ q.look) (λ q more. omega (arith, above, more)) ps sorted.0,
    )
  where
    by : (n < p.look) ⊎ (p.look ≤ n) → n + 1 ≤ p.look
    by (inl less) = omega (arith, less)
    by (inr most) = let least : n ≤ p.look = from.0 in absurd (other (omega (arith, most, least)))

pub none_sees : (ps : List FastSent) (n : ℕ) → AreFrom (n + 1) ps → filter (sees n) ps ≡ []
none_sees [] n from = refl
none_sees (p ∷ ps) n from =
    let above : n + 1 ≤ p.look = from.0 in
    rw (ne_eqb p.look n (λ same. omega (arith, above, same))) (none_sees ps n from.1)

pub same_on : (n : ℕ) (ps qs rs : List FastSent) → SameFrom (n + 1) ps qs → SameFrom n qs rs → SameFrom (n + 1) ps rs
same_on n ps qs rs first second m least = first m least ∙ second m (omega (arith, least))

all_from : {A : Type 0} (P : A → Type 0) (xs : List A) (d : A) → ((i : ℕ) → i < length xs → P (get_or xs i d))
    → AllByRecursion P xs
all_from P [] d each = tt
all_from P (x ∷ xs) d each = (
  each 0 (omega arith),
  all_from P xs d (λ i within. each (suc i) (omega (arith, within))),
)

pub sorted_from : (ps : List FastSent) → IsNonDecreasingBy (λ p. p.look) ps → AreSorted ps
sorted_from [] rises = tt
sorted_from (p ∷ ps) rises = (
  all_from (λ q. p.look ≤ q.look) ps p (λ j within. rises 0 (suc j) p (omega arith) (omega (arith, within))),
  sorted_from ps (λ i j d order within. rises (suc i) (suc j) d (omega (arith, order)) (omega (arith, within))),
)

tie_is : (a b : ℕ) → (not (is_lt (nat_cmp a b)) && not (is_lt (nat_cmp b a))) ≡ (b == a)
tie_is a b = elim (cases_lt a b) [
  | inl less ↦ rw (lt-ltb a b less, ne_eqb b a (λ same. omega (arith, less, same))) refl
  | inr least ↦ elim (cases_lt b a) [
    | inl less ↦ rw (
      le-ltb a b least,
      lt-ltb b a less,
      ne_eqb b a (λ same. omega (arith, less, same)),
      ne_eqb a b (λ same. omega (arith, less, same)),
    ) refl
    | inr most ↦ (let same : b ≡ a = omega (arith, least, most) in
        rw (le-ltb a b least, le-ltb b a most, eq-eqb b a same, eq-eqb a b (sym same)) refl)
  ]
]

abbrev at_look : ℕ → FastSent
at_look n = record { lane = record { 0 = 0 }; index = 0; look = n; outs = record { 0 = 0 } }

pub same_sorted : (ps qs : List FastSent) → IsStableByKey (λ p. p.look) nat_cmp ps qs → SameFrom 0 qs ps
same_sorted ps qs stable m least =
    sym (filter_agree _ (sees m) (λ p. tie_is m p.look) qs) ∙ stable (at_look m)
    ∙ filter_agree _ (sees m) (λ p. tie_is m p.look) ps

abbrev pub HasLook : ℕ → FastSent → Type 0
HasLook n p = p.look ≡ n

sorted_drop : (ps : List FastSent) (k : ℕ) → AreSorted ps → AreSorted (drop k ps)
sorted_drop [] zero sorted = tt
sorted_drop [] (suc k) sorted = tt
sorted_drop (p ∷ ps) zero sorted = sorted
sorted_drop (p ∷ ps) (suc k) sorted = sorted_drop ps k sorted.1

from_drop : (n : ℕ) (ps : List FastSent) (k : ℕ) → AreFrom n ps → AreFrom n (drop k ps)
from_drop n [] zero from = tt
from_drop n [] (suc k) from = tt
from_drop n (p ∷ ps) zero from = from
from_drop n (p ∷ ps) (suc k) from = from_drop n ps k from.1

seen_front : (n : ℕ) (ps : List FastSent) (k : ℕ) → AllByRecursion (HasLook n) (take k ps) → AreFrom (n + 1) (drop k ps)
    → filter (sees n) ps ≡ take k ps
seen_front n [] zero all from = refl
seen_front n [] (suc k) all from = refl
seen_front n (p ∷ ps) zero all from = none_sees (p ∷ ps) n from
seen_front n (p ∷ ps) (suc k) all from =
    rw (eq-eqb p.look n all.0) (ap (λ qs. p ∷ qs) (seen_front n ps k all.1 from))

same_front : (n : ℕ) (ps : List FastSent) (k : ℕ) → AllByRecursion (HasLook n) (take k ps) → SameFrom (n + 1) (drop k ps) ps
same_front n [] zero all = λ m least. refl
same_front n [] (suc k) all = λ m least. refl
same_front n (p ∷ ps) zero all = λ m least. refl
same_front n (p ∷ ps) (suc k) all = λ m least.
    rw (ne_eqb p.look m (λ met. omega (arith, met, all.0, least))) (same_front n ps k all.1 m least)

-- where all in front have the look, and those behind them greater ones
pub is_front : (n : ℕ) (ps : List FastSent) (k : ℕ) → AreSorted ps → AllByRecursion (HasLook n) (take k ps)
    → AreFrom (n + 1) (drop k ps) → IsFront n ps k
is_front n ps k sorted all from = record {
  seen = seen_front n ps k all from;
  sorted = sorted_drop ps k sorted;
  from = from;
  same = same_front n ps k all;
}

pub front_ends : (n : ℕ) (ps : List FastSent) (k : ℕ) (d : FastSent) → AreSorted ps → AreFrom n ps
    → AllByRecursion (HasLook n) (take k ps) → ((get_or ps k d).look ≡ n → ⊥) → IsFront n ps k
front_ends n ps k d sorted from all other =
    let first : get_or (drop k ps) 0 d ≡ get_or ps k d =
    get_or-drop k ps 0 d ∙ ap (λ i. get_or ps i d) (omega arith) in
    is_front n ps k sorted all (from_next (drop k ps) n d (sorted_drop ps k sorted) (from_drop n ps k from)
    (λ met. other (ap (λ (p : FastSent). p.look) (sym first) ∙ met)))

drop_all : (ps : List FastSent) (k : ℕ) → length ps ≤ k → drop k ps ≡ []
drop_all [] zero past = refl
drop_all [] (suc k) past = refl
drop_all (p ∷ ps) zero past = absurd (omega arith)
drop_all (p ∷ ps) (suc k) past = drop_all ps k (omega (arith, past))

pub front_all : (n : ℕ) (ps : List FastSent) (k : ℕ) → AreSorted ps → AllByRecursion (HasLook n) (take k ps)
    → length ps ≤ k → IsFront n ps k
front_all n ps k sorted all past = is_front n ps k sorted all (rw (drop_all ps k past) tt)

look_suc : (n : ℕ) (ps : List FastSent) (k : ℕ) (d : FastSent) → AllByRecursion (HasLook n) (take k ps) → k < length ps
    → (get_or ps k d).look ≡ n → AllByRecursion (HasLook n) (take (suc k) ps)
look_suc n [] k d all within is = absurd (omega arith)
look_suc n (p ∷ ps) zero d all within is = (is, tt)
look_suc n (p ∷ ps) (suc k) d all within is = (all.0, look_suc n ps k d all.1 (omega (arith, within)) is)

pub look_more : (n : ℕ) (ps : List FastSent) (k : ℕ) (d : FastSent) → AllByRecursion (HasLook n) (take k ps) → k < length ps
    → (get_or ps k d).look ≡ n → AllByRecursion (HasLook n) (take (k + 1) ps)
look_more n ps k d all within is = rw add-one (look_suc n ps k d all within is)
