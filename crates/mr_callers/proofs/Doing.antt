-- What one caller does, and what several do one after another.
use Rattle.std.proofs.Common.{◌≡◌, ◌≢◌, ◌∙◌, ℕ, zero, suc, ◌+◌, ◌≤◌, ◌<◌, ◌==◌, ◌⊎◌, inl, inr, Bool, true, false, cond, List, [], ◌∷◌, ◌++◌, refl, sym, ap, arith, append_assoc, append-nil, subst}
use Rattle.std.proofs.lemmas.Grind.{flat_map-append}
use Rattle.std.proofs.lemmas.List.Elements.{filter-append}
use Rattle.std.specs.Prelude.{flat_map}
use Rattle.std.specs.List.{AllByRecursion, filter}
use Rattle.mr_authors.specs.Authors.{author, own}
use Rattle.mr_callers.specs.Deeds.{Does}
use Rattle.mr_model.specs.declared.entry.Entry.{Entry}
use Rattle.mr_callers.proofs.Owning.{flat_own, own_other}

all_append : {X : Type 0} (P : X → Type 0) (xs ys : List X) → AllByRecursion P xs → AllByRecursion P ys → AllByRecursion P (xs ++ ys)
all_append P [] ys a b = b
all_append P (x ∷ xs) ys a b = (a.0, all_append P xs ys a.1 b)

pub both_behind : (h a b m g : List Entry) → m ≡ h ++ a → g ≡ m ++ b → g ≡ h ++ (a ++ b)
both_behind h a b m g first second = second ∙ ap (λ (x : List Entry). x ++ b) first ∙ append_assoc h a b

pub own_append : (n : ℕ) (a b : List Entry) → own n (a ++ b) ≡ own n a ++ own n b
own_append n a b = filter-append (λ e. author e == n) a b

-- nothing is done
pub does_none : {A : Type 0} (n : ℕ) (f : Entry → List A) (h : List Entry) → Does n f [] h h
does_none n f h = record { part = []; behind = sym (append-nil h); its = tt; does = refl }

-- one entry of the caller
pub does_one : {A : Type 0} (n : ℕ) (f : Entry → List A) (h g : List Entry) (e : Entry) → g ≡ h ++ e ∷ [] → author e ≡ n → Does n f (f e) h g
does_one n f h g e behind its = record { part = e ∷ []; behind = behind; its = (its, tt); does = append-nil (f e) }

-- first this, and then that
pub does_then : {A : Type 0} (n : ℕ) (f : Entry → List A) (a b : List A) (h m g : List Entry) → Does n f a h m → Does n f b m g → Does n f (a ++ b) h g
does_then n f a b h m g x y = record {
  part = x.part ++ y.part;
  behind = both_behind h x.part y.part m g x.behind y.behind;
  its = all_append (λ e. author e ≡ n) x.part y.part x.its y.its;
  does = flat_map-append f x.part y.part ∙ rw (x.does, y.does) refl;
}
