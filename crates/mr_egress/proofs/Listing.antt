-- Lists taken one element more, and what holds of each element.
use Rattle.std.proofs.Common.{◌≡◌, refl, ap, ℕ, zero, suc, ◌+◌, Some, List, [], ◌∷◌, ◌++◌, map, flat_map, take, slice_get, add-one, append-nil, append_assoc}
use Rattle.std.proofs.lemmas.List.{map-append}
use Rattle.std.proofs.lemmas.List.Concat.{flat_map-append, flat_map-cons}
use Rattle.std.specs.List.{AllByRecursion}

pub some_same : {A : Type 0} (x y : A) → Some x ≡ Some y → x ≡ y
some_same x y is = cc

take_from : {A : Type 0} (xs : List A) (i : ℕ) (x : A) → slice_get xs i ≡ Some x → take (suc i) xs ≡ take i xs ++ x ∷ []
take_from [] i x is = absurd cc
take_from (y ∷ ys) zero x is = ap (λ z. z ∷ []) (some_same y x is)
take_from (y ∷ ys) (suc i) x is = ap (λ zs. y ∷ zs) (take_from ys i x is)

pub take_found : {A : Type 0} (xs : List A) (i : ℕ) (x : A) → slice_get xs i ≡ Some x → take (i + 1) xs ≡ take i xs ++ x ∷ []
take_found xs i x is = rw add-one (take_from xs i x is)

pub mapped_more : {A B : Type 0} (f : A → B) (old : List B) (xs : List A) (i : ℕ) (x : A) → slice_get xs i ≡ Some x
    → (old ++ map f (take i xs)) ++ f x ∷ [] ≡ old ++ map f (take (i + 1) xs)
mapped_more f old xs i x is = rw (take_found xs i x is, map-append f (take i xs) (x ∷ []), append_assoc) refl

pub flat_more : {A B : Type 0} (f : A → List B) (xs : List A) (i : ℕ) (x : A) → slice_get xs i ≡ Some x
    → flat_map f (take i xs) ++ f x ≡ flat_map f (take (i + 1) xs)
flat_more f xs i x is =
    rw (take_found xs i x is, flat_map-append f (take i xs) (x ∷ []), flat_map-cons f x [], append-nil (f x)) refl

pub all_append : {A : Type 0} (P : A → Type 0) (xs ys : List A) → AllByRecursion P xs → AllByRecursion P ys
    → AllByRecursion P (xs ++ ys)
all_append P [] ys all more = more
all_append P (x ∷ xs) ys all more = (all.0, all_append P xs ys all.1 more)

pub all_weaker : {A : Type 0} (P Q : A → Type 0) → ((x : A) → P x → Q x) → (xs : List A) → AllByRecursion P xs
    → AllByRecursion Q xs
all_weaker P Q weaker [] all = tt
all_weaker P Q weaker (x ∷ xs) all = (weaker x all.0, all_weaker P Q weaker xs all.1)
