-- The rule of a book's table, which holds between any two steps.
-- The table has one word, the count, and a view for each seat:
--   right          whether the seat may count
--   known.number   the number under which it may add entries, if it has one
--   known.seen     the list as the seat last saw it
--   known.owns     each number that the seat answers for, with the entries made under it
--   olds           lists that it had seen before it took in another seat, and has not compared yet
use Rattle.std.specs.Prelude.{◌≡◌, ℕ, ◌==◌, true, Some, List, [], ◌∷◌, All, filter, length}
use mathlib.Core.Option.{some}
use mathlib.Core.List.{IsPrefix}
use lib.ListN.{get_elem?}
use Rattle.atomic_table.specs.Table.{State}
use Rattle.mr_book.specs.declared.view.View.{View}

-- the entries of one author, in order
abbrev pub by : {E : Type 0} → (E → ℕ) → ℕ → List E → List E
by author k log = filter (λ e. author e == k) log

-- of each of these numbers the list has just these entries, in this order
abbrev pub OwnEntries : {E : Type 0} → (E → ℕ) → List (ℕ × List E) → List E → Type 0
OwnEntries author owns log = All (λ own. by author own.0 log ≡ own.1) owns

module _ {E : Type 0} (author : E → ℕ) where
  -- The view v of the seat i fits the list.
  -- `keeper` is the seat that may count, and `holds k` the seat that answers for the number k.
  pub record Fits (keeper : ℕ) (holds : ℕ → ℕ) (log : List E) (i : ℕ) (v : View E) : Type 0 where
    -- only the keeper may count, and it has seen the whole list
    pub right : v.right ≡ true → (i ≡ keeper) × (v.known.seen ≡ log)
    -- what was seen is a beginning of the list
    pub begins : IsPrefix v.known.seen log
    pub olds : All (λ old. IsPrefix old log) v.olds
    -- the seat answers for its number, and nobody else answers for a number of its own
    pub number : (k : ℕ) → v.known.number ≡ Some k → holds k ≡ i
    pub holders : All (λ own. holds own.0 ≡ i) v.known.owns
    -- what it knows of each number are all entries made under it
    pub owns : OwnEntries author v.known.owns log

  -- There is one list. The count is its length, one seat may count, and each seat's view fits.
  pub record IsCounted {S : Type 0} (s : State S (View E)) : Type 0 where
    pub log : List E
    pub keeper : ℕ
    pub holds : ℕ → ℕ
    pub count : s.words ≡ length log ∷ []
    pub one : (v : View E) × (get_elem? s.views keeper ≡ some v) × (v.right ≡ true)
    pub fits : (i : ℕ) (v : View E) → get_elem? s.views i ≡ some v → Fits keeper holds log i v
