-- What seats know, as the calls of a book leave it.
use Rattle.std.specs.Prelude.{ℕ, nat_le, zero, suc, true, false, None, Some, ◌==◌, List, [], ◌∷◌, ◌++◌, map, length, if◌then◌else◌}
use Rattle.atomic_table.specs.Seated.{TableId}
use Rattle.mr_book.specs.declared.view.Known.{Known}
use Rattle.mr_book.specs.declared.view.View.{View}

-- the name of no table
abbrev pub no_table : TableId
no_table =
    record { words = 0; slots = 0; views_name = 0; atom = 0; block = 0; offset = 0; slot_names = [] }

module _ {E : Type 0} where
  -- the longer of two lists, and the first where they are as long
  abbrev pub longer : List E → List E → List E
  longer xs ys = (if nat_le (length ys) (length xs) then xs else ys)

  -- numbers from k on, under which nothing was made yet
  abbrev pub numbers : ℕ → ℕ → List (ℕ × List E)
  numbers k zero = []
  numbers k (suc n) = (k, []) ∷ numbers (suc k) n

  -- a seat with the number k that has seen nothing
  abbrev pub newcomer : ℕ → Known E
  newcomer k = record { number = Some k; seen = []; owns = (k, []) ∷ [] }

  -- a seat that has seen as much, and answers for no number
  abbrev pub copied : Known E → Known E
  copied v = record { number = None; seen = v.seen; owns = [] }

  -- the seat has seen the list
  abbrev pub with_seen : List E → Known E → Known E
  with_seen log v = record { number = v.number; seen = log; owns = v.owns }

  -- the entry is the last of its author
  abbrev pub with_own : (E → ℕ) → E → ℕ × List E → ℕ × List E
  with_own author e own = (own.0, (if author e == own.0 then own.1 ++ e ∷ [] else own.1))

  -- the seat has made the entry: it is the last that it has seen, and the last of its author
  abbrev pub with_entry : (E → ℕ) → E → Known E → Known E
  with_entry author e v =
      record { number = v.number; seen = v.seen ++ e ∷ []; owns = map (with_own author e) v.owns }

  -- the seat v has met the seat w: it has seen the longer list, and answers for the numbers of both
  abbrev pub met : Known E → Known E → Known E
  met v w = record { number = v.number; seen = longer v.seen w.seen; owns = v.owns ++ w.owns }

  -- the numbers without the first
  abbrev pub others : List (ℕ × List E) → List (ℕ × List E)
  others [] = []
  others (own ∷ owns) = owns

  -- what is left of a seat that deals numbers
  abbrev pub dealt_out : Known E → Known E
  dealt_out v = record { number = None; seen = v.seen; owns = others v.owns }

  -- a seat with the first of these numbers
  abbrev pub first_of : List E → List (ℕ × List E) → Known E
  first_of seen [] = record { number = None; seen = seen; owns = [] }
  first_of seen (own ∷ owns) = record { number = Some own.0; seen = seen; owns = own ∷ [] }

  abbrev pub first_dealt : Known E → Known E
  first_dealt v = first_of v.seen v.owns

  -- a seat that may not count
  abbrev pub caller : Known E → View E
  caller v = record { right = false; known = v; olds = [] }

  -- a seat that may count
  abbrev pub holder : Known E → View E
  holder v = record { right = true; known = v; olds = [] }

  -- the seat that lies beside the value while the lock is free
  abbrev pub pen : List E → View E
  pen log = holder (record { number = None; seen = log; owns = [] })

  -- a seat that was taken in by another
  abbrev pub nobody : View E
  nobody = caller (record { number = None; seen = []; owns = [] })

  -- a dealer that has the numbers from k on
  abbrev pub dealing : ℕ → ℕ → Known E
  dealing k n = record { number = None; seen = []; owns = numbers k n }

  -- the first seat of a table, which may count and has all numbers
  abbrev pub opener : ℕ → View E
  opener callers = holder (dealing 0 callers)
