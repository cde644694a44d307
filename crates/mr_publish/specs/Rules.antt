-- The rule of the list of published changes, and the step that makes it longer.
use Rattle.std.specs.Prelude.{◌≡◌, ℕ, ◌==◌, true, false, List, [], ◌∷◌, ◌++◌, MatchBool}
use Rattle.logbook.specs.Pages.{Book, Cell, Named, Step, View}
use Rattle.mr_model.specs.declared.change.Change.{Change}
use Rattle.mr_model.specs.declared.change.What.TheVariants.{Pim}
use Rattle.mr_model.specs.Numbers.{NumbersRise}
use Rattle.mr_publish.specs.Lists.{last_number}

-- The first word is the number of the last change. A list has two words, and the second stays 0.
pub record IsKept (cells : List Cell) (log : List Change) : Type 0 where
  pub words : cells ≡ (last_number 0 log, true) ∷ (0, true) ∷ []
  pub rise : NumbersRise 0 log

-- the first word of a list
abbrev pub head_of : Book → Named
head_of list = record { tracked = true; key = 0; book = list }

-- the list as it has no name yet
abbrev pub no_list : Book
no_list = record { number = 0; log_name = 0; cells_name = 0 }

-- where the number found is the one expected, the changes were added to all that had been seen
abbrev pub Adds : List Change → Step Change → View Change ℕ → ℕ → View Change ℕ → Type 0
Adds changes s v found w = MatchBool (found == s.old) (w.0 ≡ v.0 ++ changes) (Unit {0})

-- a step of this list asks nothing of the clients of `logbook`, so this change means nothing
abbrev pub no_change : Change
no_change = record { number = 0; what = Pim false }
