-- The table behind the worked row, once A has entered and left, and parts of tables beside it.
use Rattle.std.specs.Prelude.{ℕ, Some, List, [], ◌∷◌}
use Rattle.atomic_table.specs.Table.{State}
use Rattle.mr_book.specs.declared.pairs.Pair.{Pair}
use Rattle.mr_book.specs.declared.view.View.{View}
use Rattle.mr_book.specs.Views.{caller, pen}
use Rattle.mr_book.specs.Pairs.{pair}

abbrev pub all_three : List Pair
all_three = pair 0 5 ∷ pair 1 6 ∷ pair 1 7 ∷ []

-- a caller with a number, which has seen a list and answers for its own entries
abbrev pub seat_of : ℕ → List Pair → List Pair → View Pair
seat_of k seen own = caller (record { number = Some k; seen = seen; owns = (k, own) ∷ [] })

-- the count, the seats of A and B, and the pen
abbrev pub table_of : ℕ → View Pair → View Pair → State (Unit {0}) (View Pair)
table_of count a b = record { words = count ∷ []; homes = []; views = a ∷ b ∷ pen all_three ∷ [] }

-- A has entered again and seen all; B has seen what it committed last
abbrev pub seat_a : View Pair
seat_a = seat_of 0 all_three (pair 0 5 ∷ [])

abbrev pub seat_b : View Pair
seat_b = seat_of 1 all_three (pair 1 6 ∷ pair 1 7 ∷ [])
