-- The packets of one entry, one after another.
use Rattle.std.proofs.Common.{◌≡◌, refl, ap, ◌∙◌, ℕ, zero, suc, ◌+◌, ◌<◌, ◌^◌, Some, List, [], ◌∷◌}
use Rattle.std.proofs.Common.{◌++◌, length, map, take, arith, get_or, append-nil, subst, add-one}
use Rattle.std.proofs.Common.{flat_map, slice_get}
use Rattle.std.proofs.Math.Seq.{take-suc}
use Rattle.std.proofs.lemmas.List.{length-append, map-append, append_assoc}
use Rattle.std.proofs.lemmas.List.Concat.{flat_map-cons}
use Rattle.std.specs.List.{AllByRecursion}
use Rattle.mr_model.specs.declared.entry.FastRecord.{FastRecord}
use Rattle.mr_model.specs.declared.entry.ReleasedId.{ReleasedId}
use Rattle.mr_model.specs.Counts.{Met, met_by, met_fast}
use Rattle.mr_history.specs.declared.totals.Totals.{Totals}
use Rattle.mr_history.specs.Totals.{AreFew, AreShort, AreTotals, SameKept, released_mets}

pub all_append : {A : Type 0} (P : A → Type 0) (xs ys : List A) → AllByRecursion P xs
    → AllByRecursion P ys → AllByRecursion P (xs ++ ys)
all_append P [] ys all more = more
all_append P (x ∷ xs) ys all more = (all.0, all_append P xs ys all.1 more)

pub all_front : {A : Type 0} (P : A → Type 0) (xs ys : List A) → AllByRecursion P (xs ++ ys)
    → AllByRecursion P xs
all_front P [] ys all = tt
all_front P (x ∷ xs) ys all = (all.0, all_front P xs ys all.1)

pub few_front : (ms ns : List Met) → AreFew (ms ++ ns) → AreFew ms
few_front ms ns few = record {
  few = omega (arith, few.few, length-append ms ns);
  short = all_front _ ms ns few.short;
}

-- more packets behind some others
abbrev pub Counts : Totals → Totals → List Met → Type 0
Counts t u ns = (ms : List Met) → AreFew (ms ++ ns) → AreTotals t ms → AreTotals u (ms ++ ns)

pub counts_both : (t u w : Totals) (ns ks : List Met) → Counts t u ns → Counts u w ks
    → Counts t w (ns ++ ks)
counts_both t u w ns ks first second ms few are =
    let more : AreFew ((ms ++ ns) ++ ks) = rw append_assoc few in
    rw (← append_assoc ms ns ks) (second (ms ++ ns) more
    (first ms (few_front (ms ++ ns) ks more) are))

pub same_both : (t u w : Totals) → SameKept t u → SameKept u w → SameKept t w
same_both t u w first second = record {
  numbers = second.numbers ∙ first.numbers;
  room = second.room ∙ first.room;
  vifs = second.vifs ∙ first.vifs;
}

fast_more : (rs : List FastRecord) (i : ℕ) (d : FastRecord) → i < length rs →
    map met_fast (take (i + 1) rs) ≡ map met_fast (take i rs) ++ met_fast (get_or rs i d) ∷ []
fast_more rs i d within = rw (add-one, take-suc rs i d within)
    (map-append met_fast (take i rs) (get_or rs i d ∷ []))

pub fast_step : (t u w : Totals) (rs : List FastRecord) (i : ℕ) (d : FastRecord) (m : Met)
    → i < length rs → m ≡ met_fast (get_or rs i d) →
    Counts t u (map met_fast (take i rs)) → Counts u w (m ∷ [])
    → Counts t w (map met_fast (take (i + 1) rs))
fast_step t u w rs i d m within is first second =
    rw (fast_more rs i d within)
    (counts_both t u w (map met_fast (take i rs)) (met_fast (get_or rs i d) ∷ []) first
    (subst (λ x. Counts u w (x ∷ [])) is second))

pub fast_short : (rs : List FastRecord) (i : ℕ) (d : FastRecord) (m : Met) → i < length rs
    → m ≡ met_fast (get_or rs i d) →
    AreShort (map met_fast (take i rs)) → m.length < 2 ^ 16
    → AreShort (map met_fast (take (i + 1) rs))
fast_short rs i d m within is short one =
    rw (fast_more rs i d within) (all_append _ (map met_fast (take i rs))
    (met_fast (get_or rs i d) ∷ []) short (subst (λ (x : Met). x.length < 2 ^ 16) is one, tt))

released_from : (p : ℕ) (xs : List ReleasedId) (ns : List ℕ) (i : ℕ) (x : ReleasedId) (n : ℕ)
    → i < length xs → i < length ns →
    released_mets p (take (suc i) xs) (take (suc i) ns)
    ≡ released_mets p (take i xs) (take i ns) ++ met_by p (get_or ns i n)
    (get_or xs i x).outcome
released_from p [] ns i x n within inside = absurd (omega arith)
released_from p (y ∷ xs) [] i x n within inside = absurd (omega arith)
released_from p (y ∷ xs) (k ∷ ns) zero x n within inside = append-nil _
released_from p (y ∷ xs) (k ∷ ns) (suc i) x n within inside =
    rw (
      released_from p xs ns i x n (omega (arith, within)) (omega (arith, inside)),
      append_assoc,
    ) refl

released_more : (p : ℕ) (xs : List ReleasedId) (ns : List ℕ) (i : ℕ) (x : ReleasedId) (n : ℕ)
    → i < length xs → i < length ns →
    released_mets p (take (i + 1) xs) (take (i + 1) ns)
    ≡ released_mets p (take i xs) (take i ns) ++ met_by p (get_or ns i n)
    (get_or xs i x).outcome
released_more p xs ns i x n within inside = rw add-one (released_from p xs ns i x n within inside)

pub released_step : (t u w : Totals) (p : ℕ) (xs : List ReleasedId) (ns : List ℕ) (i : ℕ)
    (x : ReleasedId) (n : ℕ) → i < length xs → i < length ns →
    Counts t u (released_mets p (take i xs) (take i ns))
    → Counts u w (met_by p (get_or ns i n) (get_or xs i x).outcome) →
    Counts t w (released_mets p (take (i + 1) xs) (take (i + 1) ns))
released_step t u w p xs ns i x n within inside first second =
    rw (released_more p xs ns i x n within inside)
    (counts_both t u w (released_mets p (take i xs) (take i ns))
    (met_by p (get_or ns i n) (get_or xs i x).outcome) first second)

pub released_short : (p : ℕ) (xs : List ReleasedId) (ns : List ℕ) (i : ℕ) (x : ReleasedId)
    (n : ℕ) → i < length xs → i < length ns →
    AreShort (released_mets p (take i xs) (take i ns))
    → AreShort (met_by p (get_or ns i n) (get_or xs i x).outcome) →
    AreShort (released_mets p (take (i + 1) xs) (take (i + 1) ns))
released_short p xs ns i x n within inside short one =
    rw (released_more p xs ns i x n within inside) (all_append _ _ _ short one)

pub released_are : (p : ℕ) (f : ReleasedId → ℕ) (xs : List ReleasedId)
    → released_mets p xs (map f xs) ≡ flat_map (λ x. met_by p (f x) x.outcome) xs
released_are p f [] = refl
released_are p f (x ∷ xs) = rw (flat_map-cons (λ y. met_by p (f y) y.outcome) x xs)
    (ap (λ ms. met_by p (f x) x.outcome ++ ms) (released_are p f xs))

some_same : {A : Type 0} (x y : A) → Some x ≡ Some y → x ≡ y
some_same x y is = cc

take_from : {A : Type 0} (xs : List A) (i : ℕ) (x : A) → slice_get xs i ≡ Some x
    → take (suc i) xs ≡ take i xs ++ x ∷ []
take_from [] i x is = absurd cc
take_from (y ∷ ys) zero x is = ap (λ z. z ∷ []) (some_same y x is)
take_from (y ∷ ys) (suc i) x is = ap (λ zs. y ∷ zs) (take_from ys i x is)

pub take_found : {A : Type 0} (xs : List A) (i : ℕ) (x : A) → slice_get xs i ≡ Some x
    → take (i + 1) xs ≡ take i xs ++ x ∷ []
take_found xs i x is = rw add-one (take_from xs i x is)
