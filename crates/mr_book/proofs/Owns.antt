-- Entries by their author, as the list grows.
use Rattle.std.proofs.Common.{◌≡◌, ◌≢◌, ℕ, zero, suc, ◌≤◌, ◌==◌, List, [], ◌∷◌, ◌++◌, map, Bool, true, false, All, refl, ◌∙◌, subst, arith, append-nil, ne_eqb, if◌then◌else◌}
use Rattle.std.proofs.lemmas.List.Elements.{All-nil, All-cons, All-head, All-tail, All-map, filter-append}
use Rattle.mr_book.specs.Rule.{by, OwnEntries}
use Rattle.mr_book.specs.Views.{with_own, numbers}

module _ {E : Type 0} (author : E → ℕ) where
  by_more : (k : ℕ) (log : List E) (e : E) → by author k (log ++ e ∷ []) ≡ by author k log ++ by author k (e ∷ [])
  by_more k log e = filter-append (λ x. author x == k) log (e ∷ [])

  by_one : (b : Bool) (k : ℕ) (log own : List E) (e : E) → (author e == k) ≡ b → by author k log ≡ own → by author k (log ++ e ∷ []) ≡ (if b then own ++ e ∷ [] else own)
  by_one true k log own e is same = by_more k log e ∙ rw (is, same) refl
  by_one false k log own e is same = by_more k log e ∙ rw (is, same) (append-nil own)

  -- an entry of another author adds none
  pub by_other : (k : ℕ) (log own : List E) (e : E) → author e ≢ k → by author k log ≡ own → by author k (log ++ e ∷ []) ≡ own
  by_other k log own e other same = by_one false k log own e (ne_eqb (author e) k other) same

  -- the entry is one more of its author
  pub owns_more : (owns : List (ℕ × List E)) (log : List E) (e : E) → OwnEntries author owns log → OwnEntries author (map (with_own author e) owns) (log ++ e ∷ [])
  owns_more owns log e h =
      let P : ℕ × List E → Type 0 = λ own. by author own.0 (log ++ e ∷ []) ≡ own.1 in
      All-map P (with_own author e) owns (λ k d lt. by_one _ _ log _ e refl (h k d lt))

  -- the numbers stay as the entries grow
  pub holders_more : (holds : ℕ → ℕ) (i : ℕ) (owns : List (ℕ × List E)) (e : E) → All (λ own. holds own.0 ≡ i) owns → All (λ own. holds own.0 ≡ i) (map (with_own author e) owns)
  holders_more holds i owns e h = All-map (λ (own : ℕ × List E). holds own.0 ≡ i) (with_own author e) owns h

  -- what is known of one number
  pub own_one : (owns : List (ℕ × List E)) (k : ℕ) (own log : List E) → owns ≡ (k, own) ∷ [] → OwnEntries author owns log → by author k log ≡ own
  own_one owns k own log is h = All-head (λ (own : ℕ × List E). by author own.0 log ≡ own.1) (k, own) [] (subst (λ owns. OwnEntries author owns log) is h)

  -- of new numbers there are no entries
  pub numbers_new : (k n : ℕ) → OwnEntries author (numbers k n) []
  numbers_new k zero = All-nil (λ (own : ℕ × List E). by author own.0 [] ≡ own.1)
  numbers_new k (suc n) = All-cons (λ (own : ℕ × List E). by author own.0 [] ≡ own.1) (k, []) (numbers (suc k) n) refl (numbers_new (suc k) n)

-- a fact of each of two rows of numbers
pub left_part : {X : Type 0} (P : X → Type 0) (xs ys : List X) → All P (xs ++ ys) → All P xs
left_part P [] ys h = All-nil P
left_part P (x ∷ xs) ys h = All-cons P x xs (All-head P x (xs ++ ys) h) (left_part P xs ys (All-tail P x (xs ++ ys) h))

pub right_part : {X : Type 0} (P : X → Type 0) (xs ys : List X) → All P (xs ++ ys) → All P ys
right_part P [] ys h = h
right_part P (x ∷ xs) ys h = right_part P xs ys (All-tail P x (xs ++ ys) h)

-- numbers are dealt upwards
pub numbers_from : {E : Type 0} (k n low : ℕ) → low ≤ k → All (λ (own : ℕ × List E). low ≤ own.0) (numbers k n)
numbers_from {E} k zero low le = All-nil (λ (own : ℕ × List E). low ≤ own.0)
numbers_from {E} k (suc n) low le = All-cons (λ (own : ℕ × List E). low ≤ own.0) (k, []) (numbers (suc k) n) le (numbers_from (suc k) n low (omega arith))
