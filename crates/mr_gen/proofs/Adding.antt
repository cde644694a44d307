-- Sums go on by one more element.
use Rattle.std.proofs.Common.{◌≡◌, ℕ, zero, suc, ◌+◌, Some, None, List, [], ◌∷◌, drop, slice_get, refl, arith}
use Rattle.std.specs.List.{fold}

pub sum_more : {A : Type 0} (f : A → ℕ) (s : ℕ) (xs : List A) (i : ℕ) (x : A) → slice_get xs i ≡ Some x
    → fold (λ n e. n + f e) (s + f x) (drop (i + 1) xs) ≡ fold (λ n e. n + f e) s (drop i xs)
sum_more f s [] zero x e = absurd (cc (e))
sum_more f s [] (suc i) x e = absurd (cc (e))
sum_more f s (y ∷ ys) zero x e = let same : y ≡ x = cc (e) in rw same refl
sum_more f s (y ∷ ys) (suc i) x e = let number : suc i + 1 ≡ suc (i + 1) = omega arith in rw number (sum_more f s ys i x e)
