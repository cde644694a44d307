-- Just so many words.
use Rattle.std.specs.Prelude.{Option, Some, None, List, [], ◌∷◌, ℕ}

abbrev pub Word : Type 0
Word = List ℕ

abbrev pub none_of : List Word → Option (Unit {0})
none_of [] = Some tt
none_of ws = None

abbrev pub one_of : List Word → Option Word
one_of (a ∷ []) = Some a
one_of ws = None

abbrev pub two_of : List Word → Option (Word × Word)
two_of (a ∷ b ∷ []) = Some (a, b)
two_of ws = None

abbrev pub three_of : List Word → Option (Word × Word × Word)
three_of (a ∷ b ∷ c ∷ []) = Some (a, b, c)
three_of ws = None

abbrev pub four_of : List Word → Option (Word × Word × Word × Word)
four_of (a ∷ b ∷ c ∷ d ∷ []) = Some (a, b, c, d)
four_of ws = None

-- one word or more, two or more, three or more: the first ones and the others
abbrev pub some_of : List Word → Option (Word × List Word)
some_of (a ∷ ws) = Some (a, ws)
some_of ws = None

abbrev pub two_led : List Word → Option (Word × Word × List Word)
two_led (a ∷ b ∷ ws) = Some (a, b, ws)
two_led ws = None

abbrev pub three_led : List Word → Option (Word × Word × Word × List Word)
three_led (a ∷ b ∷ c ∷ ws) = Some (a, b, c, ws)
three_led ws = None
