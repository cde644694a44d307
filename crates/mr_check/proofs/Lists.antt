-- Lists that are the same at each place, and lists that stand first in others.
use Rattle.std.proofs.Common.{◌≡◌, ◌∙◌, ℕ, zero, suc, ◌+◌, ◌≤◌, ◌<◌, Some, List, [], ◌∷◌, ◌++◌, length, take, refl, ap, arith}
use Rattle.std.proofs.lemmas.List.{append_cancel_left, length-take}
use Rattle.std.specs.Prelude.{slice_get}

-- the same at each place, and behind the last one nothing is missing
pub same_upto : {A : Type 0} (xs ys : List A) → ((k : ℕ) → k ≤ length xs → slice_get xs k ≡ slice_get ys k) → xs ≡ ys
same_upto [] [] same = refl
same_upto [] (y ∷ ys) same =
    let e = same 0 (omega arith) in
    absurd (cc e)
same_upto (x ∷ xs) [] same =
    let e = same 0 (omega arith) in
    absurd (cc e)
same_upto (x ∷ xs) (y ∷ ys) same =
    let e : slice_get (x ∷ xs) 0 ≡ slice_get (y ∷ ys) 0 = same 0 (omega arith) in
    let first : x ≡ y = cc e in
    let rest : xs ≡ ys = same_upto xs ys (λ k within. same (suc k) (omega (arith, within))) in
    (λ i. first i ∷ rest i)

-- the same at each place, and as long
pub same_each : {A : Type 0} (xs ys : List A) → length xs ≡ length ys → ((k : ℕ) → k < length xs → slice_get xs k ≡ slice_get ys k) → xs ≡ ys
same_each [] [] many same = refl
same_each [] (y ∷ ys) many same = absurd (omega (arith, many))
same_each (x ∷ xs) [] many same = absurd (omega (arith, many))
same_each (x ∷ xs) (y ∷ ys) many same =
    let e : slice_get (x ∷ xs) 0 ≡ slice_get (y ∷ ys) 0 = same 0 (omega arith) in
    let first : x ≡ y = cc e in
    let rest : xs ≡ ys = same_each xs ys (omega (arith, many)) (λ k within. same (suc k) (omega (arith, within))) in
    (λ i. first i ∷ rest i)

-- what stands first in a list is no longer than it
pub front_length : {A : Type 0} (f all : List A) → take (length f) all ≡ f → length f ≤ length all
front_length f all front = omega (arith, ap length front, length-take (length f) all)

-- what stands at a place, and the first elements with it
pub at_place : {A : Type 0} (xs : List A) (k : ℕ) → k < length xs → (x : A) × (slice_get xs k ≡ Some x)
at_place [] k less = absurd (omega (arith, less))
at_place (x ∷ xs) zero less = (x, refl)
at_place (x ∷ xs) (suc k) less = at_place xs k (omega (arith, less))

take_suc : {A : Type 0} (xs : List A) (k : ℕ) (x : A) → slice_get xs k ≡ Some x → take (suc k) xs ≡ take k xs ++ x ∷ []
take_suc [] k x at = absurd (cc at)
take_suc (y ∷ xs) zero x at =
    let same : y ≡ x = cc at in
    (λ i. same i ∷ [])
take_suc {A} (y ∷ xs) (suc k) x at = ap (λ (zs : List A). y ∷ zs) (take_suc xs k x at)

pub take_at : {A : Type 0} (xs : List A) (k : ℕ) (x : A) → slice_get xs k ≡ Some x → take (k + 1) xs ≡ take k xs ++ x ∷ []
take_at {A} xs k x at =
    let next : k + 1 ≡ suc k = omega arith in
    ap (λ (n : ℕ). take n xs) next ∙ take_suc xs k x at

-- from the end on there are no more
pub take_over : {A : Type 0} (xs : List A) (k : ℕ) → length xs ≤ k → take k xs ≡ xs
take_over [] zero over = refl
take_over [] (suc k) over = refl
take_over (x ∷ xs) zero over = absurd (omega (arith, over))
take_over {A} (x ∷ xs) (suc k) over = ap (λ (zs : List A). x ∷ zs) (take_over xs k (omega (arith, over)))

-- what stands behind the same is the same
pub behind_same : {A : Type 0} (f xs ys whole : List A) → f ++ xs ≡ whole → whole ≡ f ++ ys → xs ≡ ys
behind_same f xs ys whole a b = append_cancel_left f xs ys (a ∙ b)

pub nothing_long : {A : Type 0} (xs : List A) → length xs ≡ 0 → xs ≡ []
nothing_long [] e = refl
nothing_long (x ∷ xs) e = absurd (omega (arith, e))

-- the same at each place of the first, which is not shorter
pub same_over : {A : Type 0} (xs ys : List A) → ((k : ℕ) → k < length xs → slice_get xs k ≡ slice_get ys k) → (length xs < length ys → ⊥) → xs ≡ ys
same_over [] [] same long = refl
same_over [] (y ∷ ys) same long = absurd (long (omega arith))
same_over (x ∷ xs) [] same long =
    let e = same 0 (omega arith) in
    absurd (cc e)
same_over (x ∷ xs) (y ∷ ys) same long =
    let e : slice_get (x ∷ xs) 0 ≡ slice_get (y ∷ ys) 0 = same 0 (omega arith) in
    let first : x ≡ y = cc e in
    let rest : xs ≡ ys = same_over xs ys (λ k within. same (suc k) (omega (arith, within))) (λ less. long (omega (arith, less))) in
    (λ i. first i ∷ rest i)
