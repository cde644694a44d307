-- Fast records among the entries.
use Rattle.std.proofs.Common.{◌≡◌, refl, sym, ap, ◌∙◌, ℕ, zero, suc, ◌+◌, ◌<◌, ◌≤◌, ◌==◌, ◌&&◌}
use Rattle.std.proofs.Common.{Bool, true, false, not, Some, List, [], ◌∷◌, ◌++◌, length, map}
use Rattle.std.proofs.Common.{filter, flat_map, take, drop, arith, get_or, slice_get, append-nil}
use Rattle.std.proofs.Common.{add-one, inl, inr, eq-eqb, if◌then◌else◌, None, ◌⊎◌}
use Rattle.std.proofs.lemmas.Bool.{ne_eqb, cases_lt, lt-ltb, le-ltb}
use Rattle.std.proofs.lemmas.List.{append_assoc, map-append}
use Rattle.std.proofs.lemmas.List.Concat.{flat_map-append, flat_map-cons}
use Rattle.std.proofs.lemmas.List.Elements.{filter-append, filter_agree}
use Rattle.std.specs.List.Sorted.{IsNonDecreasingBy, IsStableByKey}
use Rattle.std.specs.Ordering.{nat_cmp, is_lt}
use Rattle.mr_model.specs.declared.entry.Entry.{Entry}
use Rattle.mr_model.specs.declared.entry.Entry.TheVariants.{Settle}
use Rattle.mr_model.specs.declared.entry.FastRecord.{FastRecord}
use Rattle.mr_model.specs.declared.step.Step.{Step}
use Rattle.mr_model.specs.declared.step.Step.TheVariants.{Fast, Kept}
use Rattle.mr_model.specs.Unfolded.{fast_in, fast_at, unfolded, unfolded_from}
use Rattle.mr_history.specs.declared.merging.LaneFast.{LaneFast}
use Rattle.mr_history.specs.Merged.{lane_fast, step_of, is_at, AreSorted, AreFrom, SameFrom}
use Rattle.mr_history.proofs.Gathering.{take_found}
use Rattle.mr_history.proofs.Numbering.{all_from, all_weaker}

pub mapped_more : {A B : Type 0} (f : A → B) (old : List B) (xs : List A) (i : ℕ) (x : A)
    → slice_get xs i ≡ Some x →
    (old ++ map f (take i xs)) ++ f x ∷ [] ≡ old ++ map f (take (i + 1) xs)
mapped_more f old xs i x is =
    rw (take_found xs i x is, map-append f (take i xs) (x ∷ []), append_assoc) refl

pub flat_more : {A B : Type 0} (f : A → List B) (xs : List A) (i : ℕ) (x : A)
    → slice_get xs i ≡ Some x →
    flat_map f (take i xs) ++ f x ≡ flat_map f (take (i + 1) xs)
flat_more f xs i x is =
    rw (
      take_found xs i x is,
      flat_map-append f (take i xs) (x ∷ []),
      flat_map-cons f x [],
      append-nil (f x),
    ) refl

-- where the first look is another, no record has look n
pub behind : (ps : List LaneFast) (n : ℕ) (d : LaneFast) → AreSorted ps → AreFrom n ps
    → ((get_or ps 0 d).fast.look ≡ n → ⊥) → AreFrom (n + 1) ps
behind [] n d sorted from other = tt
behind (p ∷ ps) n d sorted from other =
    let least : n ≤ p.fast.look = from.0 in
    let above : n + 1 ≤ p.fast.look = by (cases_lt n p.fast.look) in (
      above,
      all_weaker (λ q. p.fast.look ≤ q.fast.look) (λ q. n + 1 ≤ q.fast.look)
          (λ q more. omega (arith, above, more)) ps sorted.0,
    )
  where
    by : (n < p.fast.look) ⊎ (p.fast.look ≤ n) → n + 1 ≤ p.fast.look
    by (inl less) = omega (arith, less)
    by (inr most) = let least : n ≤ p.fast.look = from.0 in
        absurd (other (omega (arith, most, least)))

pub none_at : (ps : List LaneFast) (n : ℕ) → AreFrom (n + 1) ps → filter (is_at n) ps ≡ []
none_at [] n from = refl
none_at (p ∷ ps) n from =
    let above : n + 1 ≤ p.fast.look = from.0 in
    rw (ne_eqb p.fast.look n (λ same. omega (arith, above, same))) (none_at ps n from.1)

-- the records of an entry with look n
fast_in_is : (n : ℕ) (e : Entry) → fast_in n e ≡ map step_of (filter (is_at n) (lane_fast e))
fast_in_is n (Settle lane records) = of records
  where
    of : (rs : List FastRecord) → map (λ r. Fast lane r) (filter (λ r. r.look == n) rs)
        ≡ map step_of (filter (is_at n) (lane_fast (Settle lane rs)))
    of [] = refl
    of (r ∷ rs) = by (r.look == n) (of rs)
      where
        by : (b : Bool) → map (λ x. Fast lane x) (filter (λ x. x.look == n) rs)
            ≡ map step_of (filter (is_at n) (lane_fast (Settle lane rs))) →
            map (λ x. Fast lane x) (if b then r ∷ filter (λ x. x.look == n) rs
            else filter (λ x. x.look == n) rs)
            ≡ map step_of (if b then record { lane = lane; fast = r } ∷ filter (is_at n)
            (lane_fast (Settle lane rs)) else filter (is_at n) (lane_fast (Settle lane rs)))
        by true more = ap (λ ss. Fast lane r ∷ ss) more
        by false more = more
fast_in_is n e = refl

pub fast_at_is : (n : ℕ) (h : List Entry)
    → fast_at n h ≡ map step_of (filter (is_at n) (flat_map lane_fast h))
fast_at_is n [] = refl
fast_at_is n (e ∷ h) =
    rw (
      flat_map-cons (fast_in n) e h,
      flat_map-cons lane_fast e h,
      filter-append (is_at n) (lane_fast e) (flat_map lane_fast h),
      map-append step_of (filter (is_at n) (lane_fast e))
          (filter (is_at n) (flat_map lane_fast h)),
      fast_in_is n e,
      fast_at_is n h,
    ) refl

drop_found : {A : Type 0} (xs : List A) (i : ℕ) (x : A) → slice_get xs i ≡ Some x
    → drop i xs ≡ x ∷ drop (suc i) xs
drop_found [] i x is = absurd cc
drop_found (y ∷ ys) zero x is = some_head y x ys is
  where
    some_head : {A : Type 0} (y x : A) (ys : List A) → Some y ≡ Some x → y ∷ ys ≡ x ∷ ys
    some_head y x ys is = cc
drop_found (y ∷ ys) (suc i) x is = drop_found ys i x is

pub merge_more : (h : List Entry) (i : ℕ) (e : Entry) (steps : List Step) (rest : List LaneFast)
    → slice_get h i ≡ Some e →
    steps ++ unfolded_from h i (drop i h) ≡ unfolded h → SameFrom i rest (flat_map lane_fast h) →
    ((steps ++ map step_of (filter (is_at i) rest)) ++ Kept e ∷ []) ++ unfolded_from h (i + 1)
    (drop (i + 1) h) ≡ unfolded h
merge_more h i e steps rest is so_far same =
    let fast : fast_at i h ≡ map step_of (filter (is_at i) rest) =
    rw (same i (omega arith)) (fast_at_is i h) in
    let next : drop i h ≡ e ∷ drop (i + 1) h = rw add-one (drop_found h i e is) in
    rw (append_assoc, append_assoc) (rw (next, fast) at so_far)

pub merge_last : (h : List Entry) (i : ℕ) (steps : List Step) (rest : List LaneFast)
    → length h ≤ i →
    steps ++ unfolded_from h i (drop i h) ≡ unfolded h → SameFrom i rest (flat_map lane_fast h) →
    steps ++ map step_of (filter (is_at i) rest) ≡ unfolded h
merge_last h i steps rest past so_far same =
    let fast : fast_at i h ≡ map step_of (filter (is_at i) rest) =
    rw (same i (omega arith)) (fast_at_is i h) in
    rw (drop_past h i past, fast) at so_far
  where
    drop_past : {A : Type 0} (xs : List A) (i : ℕ) → length xs ≤ i → drop i xs ≡ []
    drop_past [] zero past = refl
    drop_past [] (suc i) past = refl
    drop_past (x ∷ xs) zero past = absurd (omega arith)
    drop_past (x ∷ xs) (suc i) past = drop_past xs i (omega (arith, past))

pub same_on : (n : ℕ) (ps qs rs : List LaneFast) → SameFrom (n + 1) ps qs → SameFrom n qs rs
    → SameFrom (n + 1) ps rs
same_on n ps qs rs first second m least = first m least ∙ second m (omega (arith, least))

pub sorted_from : (ps : List LaneFast) → IsNonDecreasingBy (λ p. p.fast.look) ps → AreSorted ps
sorted_from [] rises = tt
sorted_from (p ∷ ps) rises = (
  all_from (λ q. p.fast.look ≤ q.fast.look) ps p
      (λ j within. rises 0 (suc j) p (omega arith) (omega (arith, within))),
  sorted_from ps (λ i j d order within. rises (suc i) (suc j) d (omega (arith, order))
      (omega (arith, within))),
)

tie_is : (a b : ℕ) → (not (is_lt (nat_cmp a b)) && not (is_lt (nat_cmp b a))) ≡ (b == a)
tie_is a b = elim (cases_lt a b) [
  | inl less ↦ rw (lt-ltb a b less, ne_eqb b a (λ same. omega (arith, less, same))) refl
  | inr least ↦ elim (cases_lt b a) [
    | inl less ↦ rw (
      le-ltb a b least,
      lt-ltb b a less,
      ne_eqb b a (λ same. omega (arith, less, same)),
      ne_eqb a b (λ same. omega (arith, less, same)),
    ) refl
    | inr most ↦ (let same : b ≡ a = omega (arith, least, most) in
        rw (le-ltb a b least, le-ltb b a most, eq-eqb b a same, eq-eqb a b (sym same)) refl)
  ]
]

abbrev at_look : ℕ → LaneFast
at_look n = record {
  lane = record { 0 = 0 };
  fast = record {
    index = 0;
    look = n;
    entry = 0;
    input = None;
    outs = record { 0 = 0 };
    flow = record { dev = 0; src = record { 0 = 0 }; dst = record { 0 = 0 }; ttl = 0; length = 0 };
  };
}

pub same_sorted : (ps qs : List LaneFast) → IsStableByKey (λ p. p.fast.look) nat_cmp ps qs
    → SameFrom 0 qs ps
same_sorted ps qs stable m least =
    sym (filter_agree _ (is_at m) (λ p. tie_is m p.fast.look) qs) ∙ stable (at_look m)
    ∙ filter_agree _ (is_at m) (λ p. tie_is m p.fast.look) ps
