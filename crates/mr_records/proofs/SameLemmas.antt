-- Lanes that are the same before the first that differ.
use Rattle.std.proofs.Common.{◌≡◌, ℕ, zero, suc, ◌+◌, ◌≤◌, Bool, true, false, not, List, [], ◌∷◌, map, length, take, eqb, eqb-true, refl, sym, ap, ◌∙◌, arith, inl, inr, eq-zero-or-pos}
use Rattle.std.proofs.lemmas.List.{map-id}
use Rattle.std.proofs.lemmas.Simd.{length-zip2, leading_from_mask_l, trailing_mask_l}
use Rattle.std.specs.List.{prefix_len}
use lib.Count.{count_trailing_zeros}
use lib.Lanes.{zip2, mask_l}

-- whether two bytes differ
abbrev pub differ : ℕ → ℕ → Bool
differ x y = not (eqb x y)

-- how many lanes come before the first that differ
abbrev pub same_lanes : List ℕ → List ℕ → ℕ
same_lanes a b = prefix_len (λ m. not m) (zip2 differ a b)

pub front_same : (a b : List ℕ) (k : ℕ) → length a ≡ length b → k ≤ same_lanes a b → take k a ≡ take k b
front_same a b zero long within = refl
front_same [] [] (suc k) long within = refl
front_same [] (y ∷ b) (suc k) long within = absurd (omega arith)
front_same (x ∷ a) [] (suc k) long within = absurd (omega arith)
front_same (x ∷ a) (y ∷ b) (suc k) long within = by_case (eqb x y) refl within (λ w. front_same a b k (omega arith) w)
  where
    by_case : (t : Bool) → eqb x y ≡ t → suc k ≤ same_lanes (x ∷ a) (y ∷ b) → (k ≤ same_lanes a b → take k a ≡ take k b) → take (suc k) (x ∷ a) ≡ take (suc k) (y ∷ b)
    by_case true e w inner =
        let on : suc k ≤ 1 + same_lanes a b = rw e at w in
        let same : x ≡ y = eqb-true x y e in
        (λ i. same i ∷ inner (omega arith) i)
    by_case false e w inner =
        let none : suc k ≤ 0 = rw e at w in
        absurd (omega arith)

-- the lowest bit of the lanes that differ
abbrev pub lowest : List ℕ → List ℕ → ℕ
lowest a b = count_trailing_zeros 64 (mask_l (zip2 differ a b))

pub before_lowest : (a b : List ℕ) (k : ℕ) → length a ≡ 32 → length b ≡ 32 → k ≤ 32 → k ≤ lowest a b → take k a ≡ take k b
before_lowest a b k la lb few within =
    let ms = zip2 differ a b in
    let long : length ms ≡ 32 = length-zip2 differ a b (omega arith) ∙ la in
    let same : mask_l (map (λ m. m) ms) ≡ mask_l ms = ap mask_l (map-id ms) in
    front_same a b k (omega arith) (elim (eq-zero-or-pos (mask_l ms)) [
      | inl none ↦ omega (arith, leading_from_mask_l (λ m. m) ms (same ∙ none), long)
      | inr some ↦
          let is : count_trailing_zeros 64 (mask_l (map (λ m. m) ms)) ≡ same_lanes a b = trailing_mask_l (λ m. m) 64 ms (omega (arith, long)) (omega (arith, same)) in
          let low : lowest a b ≡ same_lanes a b = ap (count_trailing_zeros 64) (sym same) ∙ is in
          omega (arith, low, within)
    ])
