-- Values under rising numbers, seen newest first.
use Rattle.std.proofs.Common.{◌≡◌, refl, sym, ap, ◌∙◌, ℕ, zero, suc, ◌<◌, ◌≤◌, ◌==◌, Bool, true}
use Rattle.std.proofs.Common.{false, if◌then◌else◌, Some, None, List, [], ◌∷◌, ◌++◌, length}
use Rattle.std.proofs.Common.{get_or, slice_set, reverse, arith, eq-eqb, append-nil, ltb, ltb-true}
use Rattle.std.proofs.Common.{ltb-false, eqb, ◌⊎◌, inl, inr, subst}
use Rattle.std.proofs.lemmas.Bool.{cases_lt, ne_eqb}
use Rattle.std.proofs.lemmas.List.{reverse-append}
use Rattle.std.specs.List.{AllByRecursion, remove}
use Rattle.std.specs.List.Sorted.{IsNonDecreasingBy, IsPartitionPoint}
use Rattle.mr_history.specs.Numbers.{value_of, with_value, without_value, AreBelow, AreFalling}
use Rattle.mr_history.specs.Rising.{AreRising}

pub all_push : {A : Type 0} (P : A → Type 0) (xs : List A) (y : A) → AllByRecursion P xs → P y
    → AllByRecursion P (xs ++ y ∷ [])
all_push P [] y all one = (one, tt)
all_push P (x ∷ xs) y all one = (all.0, all_push P xs y all.1 one)

pub all_reverse : {A : Type 0} (P : A → Type 0) (xs : List A) → AllByRecursion P xs
    → AllByRecursion P (reverse xs)
all_reverse P [] all = tt
all_reverse P (x ∷ xs) all = rw (reverse-append (x ∷ []) xs)
    (all_push P (reverse xs) x (all_reverse P xs all.1) all.0)

pub all_push_parts : {A : Type 0} (P : A → Type 0) (xs : List A) (y : A)
    → AllByRecursion P (xs ++ y ∷ []) → AllByRecursion P xs × P y
all_push_parts P [] y all = (tt, all.0)
all_push_parts P (x ∷ xs) y all = let more = all_push_parts P xs y all.1 in
    ((all.0, more.0), more.1)

pub all_turned : {A : Type 0} (P : A → Type 0) (xs : List A) → AllByRecursion P (reverse xs)
    → AllByRecursion P xs
all_turned P [] all = tt
all_turned P (x ∷ xs) all =
    let parts = all_push_parts P (reverse xs) x (rw (reverse-append (x ∷ []) xs) at all) in
    (parts.1, all_turned P xs parts.0)

pub all_at : {A : Type 0} (P : A → Type 0) (xs : List A) (i : ℕ) (d : A) → AllByRecursion P xs
    → i < length xs → P (get_or xs i d)
all_at P [] i d all within = absurd (omega arith)
all_at P (x ∷ xs) zero d all within = all.0
all_at P (x ∷ xs) (suc i) d all within = all_at P xs i d all.1 (omega (arith, within))

pub all_set : {A : Type 0} (P : A → Type 0) (xs : List A) (i : ℕ) (y : A) → AllByRecursion P xs
    → P y → AllByRecursion P (slice_set xs i y)
all_set P [] i y all one = tt
all_set P (x ∷ xs) zero y all one = (one, all.1)
all_set P (x ∷ xs) (suc i) y all one = (all.0, all_set P xs i y all.1 one)

pub all_remove : {A : Type 0} (P : A → Type 0) (xs : List A) (i : ℕ) → AllByRecursion P xs
    → AllByRecursion P (remove xs i)
all_remove P [] zero all = tt
all_remove P [] (suc i) all = tt
all_remove P (x ∷ xs) zero all = all.1
all_remove P (x ∷ xs) (suc i) all = (all.0, all_remove P xs i all.1)

pub all_from : {A : Type 0} (P : A → Type 0) (xs : List A) (d : A)
    → ((i : ℕ) → i < length xs → P (get_or xs i d)) → AllByRecursion P xs
all_from P [] d each = tt
all_from P (x ∷ xs) d each = (
  each 0 (omega arith),
  all_from P xs d (λ i within. each (suc i) (omega (arith, within))),
)

pub all_weaker : {A : Type 0} (P Q : A → Type 0) → ((x : A) → P x → Q x) → (xs : List A)
    → AllByRecursion P xs → AllByRecursion Q xs
all_weaker P Q f [] all = tt
all_weaker P Q f (x ∷ xs) all = (f x all.0, all_weaker P Q f xs all.1)

pub rising_push : {T : Type 0} (xs : List (ℕ × T)) (p : ℕ × T) → AreRising xs → AreBelow p.0 xs
    → AreRising (xs ++ p ∷ [])
rising_push [] p rising below = (tt, tt)
rising_push (x ∷ xs) p rising below =
    (all_push (λ q. x.0 < q.0) xs p rising.0 below.0, rising_push xs p rising.1 below.1)

pub rising_at : {T : Type 0} (xs : List (ℕ × T)) (i j : ℕ) (d : ℕ × T) → AreRising xs → i < j
    → j < length xs → (get_or xs i d).0 < (get_or xs j d).0
rising_at [] i j d rising order within = absurd (omega arith)
rising_at (x ∷ xs) i zero d rising order within = absurd (omega arith)
rising_at (x ∷ xs) zero (suc j) d rising order within =
    all_at (λ q. x.0 < q.0) xs j d rising.0 (omega (arith, within))
rising_at (x ∷ xs) (suc i) (suc j) d rising order within =
    rising_at xs i j d rising.1 (omega (arith, order)) (omega (arith, within))

pub rising_set : {T : Type 0} (xs : List (ℕ × T)) (i : ℕ) (d : ℕ × T) (v : T) → AreRising xs
    → i < length xs → AreRising (slice_set xs i ((get_or xs i d).0, v))
rising_set [] i d v rising within = absurd (omega arith)
rising_set (x ∷ xs) zero d v rising within = (rising.0, rising.1)
rising_set (x ∷ xs) (suc i) d v rising within =
    let less : i < length xs = omega (arith, within) in (
      all_set (λ q. x.0 < q.0) xs i ((get_or xs i d).0, v) rising.0
          (all_at (λ q. x.0 < q.0) xs i d rising.0 less),
      rising_set xs i d v rising.1 less,
    )

pub rising_remove : {T : Type 0} (xs : List (ℕ × T)) (i : ℕ) → AreRising xs
    → AreRising (remove xs i)
rising_remove [] zero rising = tt
rising_remove [] (suc i) rising = tt
rising_remove (x ∷ xs) zero rising = rising.1
rising_remove (x ∷ xs) (suc i) rising =
    (all_remove (λ q. x.0 < q.0) xs i rising.0, rising_remove xs i rising.1)

falling_push : {T : Type 0} (ys : List (ℕ × T)) (x : ℕ × T) → AreFalling ys
    → AllByRecursion (λ q. x.0 < q.0) ys → AreFalling (ys ++ x ∷ [])
falling_push [] x falling above = (tt, tt)
falling_push (y ∷ ys) x falling above =
    (all_push (λ q. q.0 < y.0) ys x falling.0 above.0, falling_push ys x falling.1 above.1)

pub falling_reverse : {T : Type 0} (xs : List (ℕ × T)) → AreRising xs → AreFalling (reverse xs)
falling_reverse [] rising = tt
falling_reverse (x ∷ xs) rising =
    rw (reverse-append (x ∷ []) xs)
    (falling_push (reverse xs) x (falling_reverse xs rising.1)
    (all_reverse (λ q. x.0 < q.0) xs rising.0))

-- no number is n
abbrev pub HasNo : {T : Type 0} → ℕ → List (ℕ × T) → Type 0
HasNo n ps = AllByRecursion (λ p. (p.0 == n) ≡ false) ps

pub value_none : {T : Type 0} (ps : List (ℕ × T)) (n : ℕ) → HasNo n ps → value_of ps n ≡ None
value_none [] n none = refl
value_none (p ∷ ps) n none = rw none.0 (value_none ps n none.1)

value_right : {T : Type 0} (ps qs : List (ℕ × T)) (n : ℕ) → HasNo n ps
    → value_of (ps ++ qs) n ≡ value_of qs n
value_right [] qs n none = refl
value_right (p ∷ ps) qs n none = rw none.0 (value_right ps qs n none.1)

with_right : {T : Type 0} (ps qs : List (ℕ × T)) (n : ℕ) (v : T) → HasNo n ps
    → with_value (ps ++ qs) n v ≡ ps ++ with_value qs n v
with_right [] qs n v none = refl
with_right (p ∷ ps) qs n v none = rw none.0 (ap (λ zs. p ∷ zs) (with_right ps qs n v none.1))

without_right : {T : Type 0} (ps qs : List (ℕ × T)) (n : ℕ) → HasNo n ps
    → without_value (ps ++ qs) n ≡ ps ++ without_value qs n
without_right [] qs n none = refl
without_right (p ∷ ps) qs n none = rw none.0 (ap (λ zs. p ∷ zs) (without_right ps qs n none.1))

value_left : {T : Type 0} (ps qs : List (ℕ × T)) (n : ℕ) (u : T) → value_of ps n ≡ Some u
    → value_of (ps ++ qs) n ≡ Some u
value_left [] qs n u is = absurd cc
value_left (p ∷ ps) qs n u is = by (p.0 == n) (value_left ps qs n u) is
  where
    by : (b : Bool) → (value_of ps n ≡ Some u → value_of (ps ++ qs) n ≡ Some u)
        → (if b then Some p.1 else value_of ps n) ≡ Some u →
        (if b then Some p.1 else value_of (ps ++ qs) n) ≡ Some u
    by true more is = is
    by false more is = more is

with_left : {T : Type 0} (ps qs : List (ℕ × T)) (n : ℕ) (v u : T) → value_of ps n ≡ Some u
    → with_value (ps ++ qs) n v ≡ with_value ps n v ++ qs
with_left [] qs n v u is = absurd cc
with_left (p ∷ ps) qs n v u is = by (p.0 == n) (with_left ps qs n v u) is
  where
    by : (b : Bool) → (value_of ps n ≡ Some u
        → with_value (ps ++ qs) n v ≡ with_value ps n v ++ qs)
        → (if b then Some p.1 else value_of ps n) ≡ Some u →
        (if b then (n, v) ∷ ps ++ qs else p ∷ with_value (ps ++ qs) n v)
        ≡ (if b then (n, v) ∷ ps else p ∷ with_value ps n v) ++ qs
    by true more is = refl
    by false more is = ap (λ zs. p ∷ zs) (more is)

without_left : {T : Type 0} (ps qs : List (ℕ × T)) (n : ℕ) (u : T) → value_of ps n ≡ Some u
    → without_value (ps ++ qs) n ≡ without_value ps n ++ qs
without_left [] qs n u is = absurd cc
without_left (p ∷ ps) qs n u is = by (p.0 == n) (without_left ps qs n u) is
  where
    by : (b : Bool) → (value_of ps n ≡ Some u
        → without_value (ps ++ qs) n ≡ without_value ps n ++ qs)
        → (if b then Some p.1 else value_of ps n) ≡ Some u →
        (if b then ps ++ qs else p ∷ without_value (ps ++ qs) n)
        ≡ (if b then ps else p ∷ without_value ps n) ++ qs
    by true more is = refl
    by false more is = ap (λ zs. p ∷ zs) (more is)

-- numbers above n are not n
above_no : {T : Type 0} (xs : List (ℕ × T)) (n : ℕ) → AllByRecursion (λ q. n < q.0) xs
    → HasNo n (reverse xs)
above_no xs n above = all_reverse _ xs
    (all_weaker (λ q. n < q.0) _ (λ q less. grind (arith, less)) xs above)

pub value_found : {T : Type 0} (xs : List (ℕ × T)) (i : ℕ) (d : ℕ × T) → AreRising xs
    → i < length xs → value_of (reverse xs) (get_or xs i d).0 ≡ Some (get_or xs i d).1
value_found [] i d rising within = absurd (omega arith)
value_found (x ∷ xs) zero d rising within =
    rw (
      reverse-append (x ∷ []) xs,
      value_right (reverse xs) (x ∷ []) x.0 (above_no xs x.0 rising.0),
      eq-eqb x.0 x.0 refl,
    ) refl
value_found (x ∷ xs) (suc i) d rising within =
    rw (reverse-append (x ∷ []) xs)
    (value_left (reverse xs) (x ∷ []) _ _
    (value_found xs i d rising.1 (omega (arith, within))))

pub with_found : {T : Type 0} (xs : List (ℕ × T)) (i : ℕ) (d : ℕ × T) (v : T) → AreRising xs
    → i < length xs →
    with_value (reverse xs) (get_or xs i d).0 v ≡ reverse (slice_set xs i ((get_or xs i d).0, v))
with_found [] i d v rising within = absurd (omega arith)
with_found (x ∷ xs) zero d v rising within =
    rw (
      reverse-append (x ∷ []) xs,
      reverse-append ((x.0, v) ∷ []) xs,
      with_right (reverse xs) (x ∷ []) x.0 v (above_no xs x.0 rising.0),
      eq-eqb x.0 x.0 refl,
    )
    refl
with_found (x ∷ xs) (suc i) d v rising within =
    let less : i < length xs = omega (arith, within) in
    rw (
      reverse-append (x ∷ []) xs,
      reverse-append (x ∷ []) (slice_set xs i ((get_or xs i d).0, v)),
      with_left (reverse xs) (x ∷ []) (get_or xs i d).0 v _ (value_found xs i d rising.1 less),
      with_found xs i d v rising.1 less,
    ) refl

pub without_found : {T : Type 0} (xs : List (ℕ × T)) (i : ℕ) (d : ℕ × T) → AreRising xs
    → i < length xs →
    without_value (reverse xs) (get_or xs i d).0 ≡ reverse (remove xs i)
without_found [] i d rising within = absurd (omega arith)
without_found (x ∷ xs) zero d rising within =
    rw (
      reverse-append (x ∷ []) xs,
      without_right (reverse xs) (x ∷ []) x.0 (above_no xs x.0 rising.0),
      eq-eqb x.0 x.0 refl,
      append-nil,
    ) refl
without_found (x ∷ xs) (suc i) d rising within =
    let less : i < length xs = omega (arith, within) in
    rw (
      reverse-append (x ∷ []) xs,
      reverse-append (x ∷ []) (remove xs i),
      without_left (reverse xs) (x ∷ []) (get_or xs i d).0 _ (value_found xs i d rising.1 less),
      without_found xs i d rising.1 less,
    ) refl

-- a number is at none place, where a search by it ends at one that has another
each_other : {T : Type 0} (xs : List (ℕ × T)) (n i : ℕ) (d : ℕ × T) → AreRising xs
    → IsPartitionPoint (λ p. ltb p.0 n ≡ true) (λ p. ltb p.0 n ≡ false) xs i →
    (i < length xs → (get_or xs i d).0 ≡ n → ⊥) → (k : ℕ) → k < length xs
    → eqb (get_or xs k d).0 n ≡ false
each_other xs n i d rising point other k within = ne_eqb _ _ (λ same. by (cases_lt k i) same)
  where
    by : (k < i) ⊎ (i ≤ k) → (get_or xs k d).0 ≡ n → ⊥
    by (inl less) same = let low : (get_or xs k d).0 < n =
        ltb-true _ _ (point.0 k d (omega arith) less) in omega arith
    by (inr most) same =
        let high : n ≤ (get_or xs i d).0 =
        ltb-false _ _ (point.1 i d (omega arith) (omega (arith, within, most))) in
        elim (cases_lt i k) [
          | inl less ↦ (let above : (get_or xs i d).0 < (get_or xs k d).0 =
              rising_at xs i k d rising less within in omega arith)
          | inr least ↦ (let at : i ≡ k = omega arith in other (omega arith) (rw at same))
        ]

pub absent : {T : Type 0} (xs : List (ℕ × T)) (n i : ℕ) → AreRising xs
    → IsPartitionPoint (λ p. ltb p.0 n ≡ true) (λ p. ltb p.0 n ≡ false) xs i →
    ((d : ℕ × T) → i < length xs → (get_or xs i d).0 ≡ n → ⊥) → value_of (reverse xs) n ≡ None
absent [] n i rising point other = refl
absent (x ∷ xs) n i rising point other =
    value_none _ n (all_reverse _ (x ∷ xs)
    (all_from _ (x ∷ xs) x (each_other (x ∷ xs) n i x rising point (other x))))

pub non_decreasing : {T : Type 0} (xs : List (ℕ × T)) → AreRising xs
    → IsNonDecreasingBy (λ p. p.0) xs
non_decreasing xs rising i j d order within =
    elim (cases_lt i j) [
      | inl less ↦ (let above : (get_or xs i d).0 < (get_or xs j d).0 =
          rising_at xs i j d rising less within in omega arith)
      | inr least ↦ (let at : i ≡ j = omega arith in rw at (omega arith))
    ]

-- the same at a place where each reading has the number n
pub found_value : {T : Type 0} (xs : List (ℕ × T)) (i n : ℕ) (p : ℕ × T) → AreRising xs
    → i < length xs → ((d : ℕ × T) → (get_or xs i d).0 ≡ n) → p ≡ get_or xs i p →
    value_of (reverse xs) n ≡ Some p.1
found_value xs i n p rising within is read =
    subst (λ m. value_of (reverse xs) m ≡ Some p.1) (is p)
    (value_found xs i p rising within ∙ ap (λ q. Some q.1) (sym read))

pub found_with : {T : Type 0} (xs : List (ℕ × T)) (i n : ℕ) (v : T) → AreRising xs
    → i < length xs → ((d : ℕ × T) → (get_or xs i d).0 ≡ n) →
    (with_value (reverse xs) n v ≡ reverse (slice_set xs i (n, v)))
    × AreRising (slice_set xs i (n, v))
found_with xs i n v rising within is =
    subst (λ m. (with_value (reverse xs) m v ≡ reverse (slice_set xs i (m, v)))
    × AreRising (slice_set xs i (m, v))) (is (n, v))
    (with_found xs i (n, v) v rising within, rising_set xs i (n, v) v rising within)

pub found_without : {T : Type 0} (xs : List (ℕ × T)) (i n : ℕ) (p : ℕ × T) → AreRising xs
    → i < length xs → ((d : ℕ × T) → (get_or xs i d).0 ≡ n) →
    without_value (reverse xs) n ≡ reverse (remove xs i)
found_without xs i n p rising within is =
    subst (λ m. without_value (reverse xs) m ≡ reverse (remove xs i)) (is p)
    (without_found xs i p rising within)
