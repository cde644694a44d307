-- Sums over daemons, or lanes, with their numbers.
use Rattle.std.proofs.Common.{◌≡◌, ◌+◌, ◌≤◌, ◌<◌, ℕ, zero, suc, Bool, true, false, if◌then◌else◌, Some, List, [], ◌∷◌, length, refl, subst, ◌⊎◌, inl, inr, arith}
use Rattle.std.specs.Prelude.{◌==◌, slice_get}
use Rattle.std.proofs.lemmas.Bool.{eqb-true, eqb-false, cases_lt}

beyond : (c d : ℕ) → d ≤ c → (c ≡ d → ⊥) → d + 1 ≤ c
beyond c d above other = by (cases_lt d c)
  where
    by : (d < c) ⊎ (c ≤ d) → d + 1 ≤ c
    by (inl less) = omega (arith, less)
    by (inr most) = absurd (other (omega (arith, most, above)))

module _ {K : Type 0} where
  -- over things of which the first has number d
  abbrev pub sum_from : (ℕ → K → ℕ) → ℕ → List K → ℕ
  sum_from f d [] = 0
  sum_from f d (k ∷ ks) = f d k + sum_from f (d + 1) ks

  pub sum_le : (f g : ℕ → K → ℕ) (d : ℕ) (ks : List K) → ((d : ℕ) (k : K) → f d k ≤ g d k) → sum_from f d ks ≤ sum_from g d ks
  sum_le f g d [] each = omega arith
  sum_le f g d (k ∷ ks) each = omega (arith, each d k, sum_le f g (d + 1) ks each)

  pub sum_same : (f g : ℕ → K → ℕ) (d : ℕ) (ks : List K) → ((d : ℕ) (k : K) → f d k ≡ g d k) → sum_from f d ks ≡ sum_from g d ks
  sum_same f g d [] each = refl
  sum_same f g d (k ∷ ks) each = omega (arith, each d k, sum_same f g (d + 1) ks each)

  pub sum_both : (f g : ℕ → K → ℕ) (d : ℕ) (ks : List K) → sum_from (λ d k. f d k + g d k) d ks ≡ sum_from f d ks + sum_from g d ks
  sum_both f g d [] = refl
  sum_both f g d (k ∷ ks) = omega (arith, sum_both f g (d + 1) ks)

  pub sum_none : (d : ℕ) (ks : List K) → sum_from (λ d k. 0) d ks ≡ 0
  sum_none d [] = refl
  sum_none d (k ∷ ks) = omega (arith, sum_none (d + 1) ks)

  -- It holds of each of these.
  abbrev pub EachFrom : (ℕ → K → Type 0) → ℕ → List K → Type 0
  EachFrom P d [] = Unit {0}
  EachFrom P d (k ∷ ks) = P d k × EachFrom P (d + 1) ks

  pub each_from : (P : ℕ → K → Type 0) (d : ℕ) (ks : List K) → ((i : ℕ) (k : K) → slice_get ks i ≡ Some k → P (d + i) k) → EachFrom P d ks
  each_from P d [] each = tt
  each_from P d (k ∷ ks) each = (subst (λ (n : ℕ). P n k) first (each 0 k refl), each_from P (d + 1) ks later)
    where
      first : d + 0 ≡ d
      first = omega arith

      later : (i : ℕ) (x : K) → slice_get ks i ≡ Some x → P (d + 1 + i) x
      later i x is = let n : d + suc i ≡ d + 1 + i = omega arith in subst (λ (n : ℕ). P n x) n (each (suc i) x is)

  pub sum_each : (f g : ℕ → K → ℕ) (d : ℕ) (ks : List K) → EachFrom (λ d k. f d k ≤ g d k) d ks → sum_from f d ks ≤ sum_from g d ks
  sum_each f g d [] each = omega arith
  sum_each f g d (k ∷ ks) each = omega (arith, each.0, sum_each f g (d + 1) ks each.1)

  -- one of these is no more than all
  pub sum_of : (f : ℕ → K → ℕ) (d : ℕ) (ks : List K) (i : ℕ) (k : K) → slice_get ks i ≡ Some k → f (d + i) k ≤ sum_from f d ks
  sum_of f d [] i k is = absurd (cc is)
  sum_of f d (x ∷ ks) zero k is =
      let same : x ≡ k = cc is in
      let n : d ≡ d + 0 = omega arith in
      subst (λ (y : K). f (d + 0) y ≤ sum_from f d (x ∷ ks)) same
      (subst (λ (n : ℕ). f n x ≤ sum_from f d (x ∷ ks)) n (omega arith))
  sum_of f d (x ∷ ks) (suc i) k is =
      let n : d + 1 + i ≡ d + suc i = omega arith in
      subst (λ (n : ℕ). f n k ≤ sum_from f d (x ∷ ks)) n (omega (arith, sum_of f (d + 1) ks i k is))

  -- something at one number
  abbrev pub hit : ℕ → ℕ → ℕ → K → ℕ
  hit c x d k = if c == d then x else 0

  hits_none : (c x d : ℕ) (ks : List K) → c < d → sum_from (hit c x) d ks ≡ 0
  hits_none c x d [] below = refl
  hits_none c x d (k ∷ ks) below = by (c == d) refl (hits_none c x (d + 1) ks (omega (arith, below)))
    where
      by : (b : Bool) → (c == d) ≡ b → sum_from (hit c x) (d + 1) ks ≡ 0 → (if b then x else 0) + sum_from (hit c x) (d + 1) ks ≡ 0
      by true is more = absurd (omega (arith, eqb-true c d is, below))
      by false is more = omega (arith, more)

  pub hits : (c x d : ℕ) (ks : List K) → d ≤ c → c < d + length ks → sum_from (hit c x) d ks ≡ x
  hits c x d [] above below = absurd (omega (arith, above, below))
  hits c x d (k ∷ ks) above below = by (c == d) refl (λ later. hits c x (d + 1) ks later (omega (arith, below)))
    where
      by : (b : Bool) → (c == d) ≡ b → (d + 1 ≤ c → sum_from (hit c x) (d + 1) ks ≡ x) → (if b then x else 0) + sum_from (hit c x) (d + 1) ks ≡ x
      by true is more =
          let none = hits_none c x (d + 1) ks (omega (arith, eqb-true c d is)) in
          omega (arith, none)
      by false is more = omega (arith, more (beyond c d above (eqb-false c d is)))

  pub hits_most : (c x d : ℕ) (ks : List K) → sum_from (hit c x) d ks ≤ x
  hits_most c x d [] = omega arith
  hits_most c x d (k ∷ ks) = by (c == d) refl (hits_most c x (d + 1) ks)
    where
      by : (b : Bool) → (c == d) ≡ b → sum_from (hit c x) (d + 1) ks ≤ x → (if b then x else 0) + sum_from (hit c x) (d + 1) ks ≤ x
      by true is more =
          let none = hits_none c x (d + 1) ks (omega (arith, eqb-true c d is)) in
          omega (arith, none)
      by false is more = omega (arith, more)
