-- What the steps on a book's table do to the view of the seat that steps, and what they tell it.
use Rattle.std.specs.Prelude.{◌≡◌, ℕ, ◌≤◌, true, ◌||◌, List, [], ◌∷◌, ◌++◌, All, length, if◌then◌else◌}
use mathlib.Core.List.{IsPrefix}
use Rattle.mr_book.specs.declared.view.View.{View}
use Rattle.mr_book.specs.Rule.{OwnEntries}
use Rattle.mr_book.specs.Views.{longer}
use Rattle.mr_book.specs.Views.{with_entry}

module _ {E : Type 0} where
  -- The seat v takes in the seat w. Where one of them may count, that one has seen the whole list.
  abbrev pub joined : View E → View E → View E
  joined v w = record {
    right = v.right || w.right;
    known = record {
      number = v.known.number;
      seen =
          (if w.right then w.known.seen
          else (if v.right then v.known.seen else longer v.known.seen w.known.seen));
      owns = v.known.owns ++ w.known.owns;
    };
    olds = v.known.seen ∷ w.known.seen ∷ [];
  }

  -- the old lists are compared
  abbrev pub compared : View E → View E
  compared v = record { right = v.right; known = v.known; olds = [] }

  -- a seat with the view v found the count n
  pub record Looked (author : E → ℕ) (v : View E) (n : ℕ) (w : View E) : Type 0 where
    pub after : w ≡ compared v
    -- nobody has seen more than is counted
    pub least : length v.known.seen ≤ n
    -- who may count has seen all of it
    pub all : v.right ≡ true
        → (n ≡ length v.known.seen) × All (λ old. length old ≤ length v.known.seen) v.olds
    -- an old list that is no longer is a beginning
    pub olds : All (λ old. length old ≤ length v.known.seen → IsPrefix old v.known.seen) v.olds
    -- who has seen all knows the entries of its numbers
    pub owns : n ≡ length v.known.seen → OwnEntries author v.known.owns v.known.seen

  -- a seat that may count added 1 to the count, for the last entry of the list
  pub record CountsOne (author : E → ℕ) (list : List E)
      (v : View E) (n : ℕ) (w : View E) : Type 0 where
    pub found : n ≡ length v.known.seen
    pub after : (e : E) → list ≡ v.known.seen ++ e ∷ []
        → w ≡ record { right = v.right; known = with_entry author e v.known; olds = [] }
