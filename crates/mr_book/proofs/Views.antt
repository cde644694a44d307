-- The views of a table, of which one changes or is new, and who answers for which number.
use Rattle.std.proofs.Common.{◌≡◌, ◌≢◌, ◌⊎◌, ℕ, zero, suc, ◌<◌, eqb, cond, List, [], ◌∷◌, ◌++◌, length, set, refl, sym, ap, ◌∙◌, subst, inl, inr, ⊎_elim, arith, eq-eqb, ne_eqb}
use mathlib.Core.Option.{some, some-injective, some-ne-none}
use mathlib.Core.Logic.{dite}
use native.Mathlib.Decide.{ℕ_discrete}
use lib.ListN.{get_elem?}
use Rattle.atomic_table.proofs.Lists.{at_set, set_here, set_else, at_longer}

module _ {A : Type 0} where
  pub at_below : (l : List A) (i : ℕ) (a : A) → get_elem? l i ≡ some a → i < length l
  at_below [] i a e = absurd (some-ne-none a (sym e))
  at_below (x ∷ xs) zero a e = omega arith
  at_below (x ∷ xs) (suc i) a e = let h = at_below xs i a e in omega arith

  at_end : (l : List A) (a b : A) (j : ℕ) → get_elem? (l ++ a ∷ []) j ≡ some b → (get_elem? l j ≡ some b) ⊎ ((j ≡ length l) × (a ≡ b))
  at_end [] a b zero e = inr (refl, some-injective a b e)
  at_end [] a b (suc j) e = absurd (some-ne-none b (sym e))
  at_end (x ∷ xs) a b zero e = inl e
  at_end (x ∷ xs) a b (suc j) e = ⊎_elim (λ h. inl h) (λ h. inr (ap suc h.0, h.1)) (at_end xs a b j e)

  -- a fact of each view, after one was replaced
  pub all_set : (P : ℕ → A → Type 0) (l : List A) (i : ℕ) (a : A) → ((j : ℕ) (b : A) → j ≢ i → get_elem? l j ≡ some b → P j b) → P i a → (j : ℕ) (b : A) → get_elem? (set l i a) j ≡ some b → P j b
  all_set P l i a others here j b at =
      ⊎_elim
      (λ (h : (j ≡ i) × (a ≡ b)). subst (λ (p : ℕ × A). P p.0 p.1) (λ k. (sym h.0 k, h.1 k)) here)
      (λ (h : (j ≢ i) × (get_elem? l j ≡ some b)). others j b h.0 h.1)
      (at_set l i j a b at)

  -- a fact of each view, after one was added
  pub all_more : (P : ℕ → A → Type 0) (l : List A) (a : A) → ((j : ℕ) (b : A) → get_elem? l j ≡ some b → P j b) → P (length l) a → (j : ℕ) (b : A) → get_elem? (l ++ a ∷ []) j ≡ some b → P j b
  all_more P l a before here j b at =
      ⊎_elim
      (λ (h : get_elem? l j ≡ some b). before j b h)
      (λ (h : (j ≡ length l) × (a ≡ b)). subst (λ (p : ℕ × A). P p.0 p.1) (λ k. (sym h.0 k, h.1 k)) here)
      (at_end l a b j at)

  -- some view has this fact, and still has it where it was replaced by one that has it too
  pub one_set : (P : A → Type 0) (l : List A) (one i : ℕ) (a b : A) → get_elem? l i ≡ some b → (P b → P a) → (u : A) × (get_elem? l one ≡ some u) × P u → (u : A) × (get_elem? (set l i a) one ≡ some u) × P u
  one_set P l one i a b at keep h =
      dite (ℕ_discrete one i)
      (λ (is : one ≡ i). (a, subst (λ k. get_elem? (set l i a) k ≡ some a) (sym is) (set_here l i a (at_below l i b at)), keep (subst P (some-injective _ _ (sym h.1 ∙ ap (get_elem? l) is ∙ at)) h.2)))
      (λ (apart : one ≢ i). (h.0, set_else l i one a apart ∙ h.1, h.2))

  pub one_more : (P : A → Type 0) (l : List A) (one : ℕ) (a : A) → (u : A) × (get_elem? l one ≡ some u) × P u → (u : A) × (get_elem? (l ++ a ∷ []) one ≡ some u) × P u
  one_more P l one a h = (h.0, at_longer l (a ∷ []) one h.0 h.1, h.2)

  -- the view at a place is one view
  pub same_view : (l : List A) (i : ℕ) (a b : A) → get_elem? l i ≡ some a → get_elem? l i ≡ some b → a ≡ b
  same_view l i a b p q = some-injective a b (sym p ∙ q)

-- whoever answered at one place for numbers answers at another
pub moved : ℕ → ℕ → ℕ → ℕ
moved from to i = cond (eqb i from) to i

pub moved_here : (from to i : ℕ) → i ≡ from → moved from to i ≡ to
unfolding moved
moved_here from to i is = ap (λ b. cond b to i) (eq-eqb i from is)

pub moved_else : (from to i j : ℕ) → i ≡ j → j ≢ from → moved from to i ≡ j
unfolding moved
moved_else from to i j is apart = ap (λ b. cond b to i) (ne_eqb i from (λ e. apart (sym is ∙ e))) ∙ is
