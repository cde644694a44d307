-- Facts of each lane.
use Rattle.std.proofs.Common.{◌≡◌, ◌≢◌, refl, ap, sym, ◌∙◌, subst, ℕ, zero, suc, ◌+◌, ◌<◌, ◌≤◌, List, [], ◌∷◌, ◌++◌, length, map, flat_map, set, get_or, arith}
use Rattle.std.specs.List.{AllByRecursion}
use Rattle.mr_load.specs.Callers.{from_on}
use Rattle.mr_load.specs.Passing.{EachFrom, BothFrom}
use Rattle.mr_load.specs.declared.passing.Passed.{Passed}

pub each_weaker : (P Q : ℕ → Passed → Type 0) → ((lane : ℕ) (a : Passed) → P lane a → Q lane a) → (n : ℕ) (ls : List Passed) → EachFrom P n ls → EachFrom Q n ls
each_weaker P Q w n [] e = tt
each_weaker P Q w n (a ∷ ls) e = (w n a e.0, each_weaker P Q w (n + 1) ls e.1)

pub each_get : (P : ℕ → Passed → Type 0) (n i : ℕ) (ls : List Passed) (a : Passed) → EachFrom P n ls → i < length ls → a ≡ get_or ls i a → P (n + i) a
each_get P n i [] a e within is = absurd (omega (arith, within))
each_get P n zero (b ∷ ls) a e within is =
    let number : n + 0 ≡ n = omega arith in
    rw (number, is) e.0
each_get P n (suc i) (b ∷ ls) a e within is =
    let number : n + suc i ≡ n + 1 + i = omega arith in
    rw number (each_get P (n + 1) i ls a e.1 (omega (arith, within)) is)

pub each_push : (P : ℕ → Passed → Type 0) (n : ℕ) (ls : List Passed) (a : Passed) → EachFrom P n ls → P (n + length ls) a → EachFrom P n (ls ++ a ∷ [])
each_push P n [] a e p =
    let number : n + 0 ≡ n = omega arith in
    (rw number at p, tt)
each_push P n (b ∷ ls) a e p =
    let number : n + 1 + length ls ≡ n + length (b ∷ ls) = omega arith in
    (e.0, each_push P (n + 1) ls a e.1 (rw number p))

-- of each lane alone, and of a lane before and after
pub both_from : (P : ℕ → Passed → Type 0) (R : ℕ → Passed → Passed → Type 0) → ((lane : ℕ) (a : Passed) → P lane a → R lane a a) → (n : ℕ) (ls : List Passed) → EachFrom P n ls → BothFrom R n ls ls
both_from P R f n [] e = tt
both_from P R f n (a ∷ ls) e = (f n a e.0, both_from P R f (n + 1) ls e.1)

pub each_after : (P Q : ℕ → Passed → Type 0) (R : ℕ → Passed → Passed → Type 0) → ((lane : ℕ) (a b : Passed) → P lane a → R lane a b → Q lane b) → (n : ℕ) (ls bs : List Passed)
    → EachFrom P n ls → BothFrom R n ls bs → EachFrom Q n bs
each_after P Q R f n [] [] e r = tt
each_after P Q R f n [] (b ∷ bs) e r = absurd r
each_after P Q R f n (a ∷ ls) [] e r = absurd r
each_after P Q R f n (a ∷ ls) (b ∷ bs) e r = (f n a b e.0 r.0, each_after P Q R f (n + 1) ls bs e.1 r.1)

pub both_on : (P Q R : ℕ → Passed → Passed → Type 0) → ((lane : ℕ) (a b c : Passed) → P lane a b → Q lane b c → R lane a c) → (n : ℕ) (ls bs cs : List Passed)
    → BothFrom P n ls bs → BothFrom Q n bs cs → BothFrom R n ls cs
both_on P Q R f n [] [] [] p q = tt
both_on P Q R f n [] [] (c ∷ cs) p q = absurd q
both_on P Q R f n [] (b ∷ bs) cs p q = absurd p
both_on P Q R f n (a ∷ ls) [] cs p q = absurd p
both_on P Q R f n (a ∷ ls) (b ∷ bs) [] p q = absurd q
both_on P Q R f n (a ∷ ls) (b ∷ bs) (c ∷ cs) p q = (f n a b c p.0 q.0, both_on P Q R f (n + 1) ls bs cs p.1 q.1)

pub both_count : (R : ℕ → Passed → Passed → Type 0) (n : ℕ) (ls bs : List Passed) → BothFrom R n ls bs → length bs ≡ length ls
both_count R n [] [] r = refl
both_count R n [] (b ∷ bs) r = absurd r
both_count R n (a ∷ ls) [] r = absurd r
both_count R n (a ∷ ls) (b ∷ bs) r = ap (λ k. suc k) (both_count R (n + 1) ls bs r.1)

-- lanes above one stay
both_above : (P : ℕ → Passed → Type 0) (R : ℕ → Passed → Passed → Type 0) (m n : ℕ) (ls : List Passed) → EachFrom P n ls
    → ((lane : ℕ) (a : Passed) → lane ≢ m → P lane a → R lane a a) → m < n → BothFrom R n ls ls
both_above P R m n [] e others above = tt
both_above P R m n (a ∷ ls) e others above =
    (others n a (λ same. omega (arith, same, above)) e.0, both_above P R m (n + 1) ls e.1 others (omega (arith, above)))

-- one lane is another one after
pub both_set : (P : ℕ → Passed → Type 0) (R : ℕ → Passed → Passed → Type 0) (n i : ℕ) (ls : List Passed) (x y : Passed) → i < length ls → x ≡ get_or ls i x → EachFrom P n ls
    → ((lane : ℕ) (a : Passed) → lane ≢ n + i → P lane a → R lane a a) → R (n + i) x y → BothFrom R n ls (set ls i y)
both_set P R n i [] x y within at e others one = absurd (omega (arith, within))
both_set P R n zero (a ∷ ls) x y within at e others one =
    let number : n + 0 ≡ n = omega arith in
    (rw (number, at) at one, both_above P R n (n + 1) ls e.1 (λ lane b other p. others lane b (λ same. other (same ∙ number)) p) (omega arith))
both_set P R n (suc i) (a ∷ ls) x y within at e others one =
    let number : n + suc i ≡ n + 1 + i = omega arith in
    (others n a (λ same. omega (arith, same)) e.0, both_set P R (n + 1) i ls x y (omega (arith, within)) at e.1 (λ lane b other p. others lane b (λ same. other (same ∙ number)) p) (rw number at one))

-- what each lane gives, by its number
pub each_map : {A : Type 0} (f : Passed → A) (g : ℕ → A) (n : ℕ) (ls : List Passed) → EachFrom (λ lane a. f a ≡ g lane) n ls → map f ls ≡ map g (from_on n (length ls))
each_map f g n [] e = refl
each_map f g n (a ∷ ls) e = rw (e.0, each_map f g (n + 1) ls e.1) refl

pub each_flat : {A : Type 0} (f : Passed → List A) (g : ℕ → List A) (n : ℕ) (ls : List Passed) → EachFrom (λ lane a. f a ≡ g lane) n ls → flat_map f ls ≡ flat_map g (from_on n (length ls))
each_flat f g n [] e = refl
each_flat f g n (a ∷ ls) e = rw (e.0, each_flat f g (n + 1) ls e.1) refl

pub each_all : (P : ℕ → Passed → Type 0) (Q : Passed → Type 0) → ((lane : ℕ) (a : Passed) → P lane a → Q a) → (n : ℕ) (ls : List Passed) → EachFrom P n ls → AllByRecursion Q ls
each_all P Q f n [] e = tt
each_all P Q f n (a ∷ ls) e = (f n a e.0, each_all P Q f (n + 1) ls e.1)
