-- A text cut at each separator: n separators leave n + 1 parts.
use Rattle.std.specs.Prelude.{ℕ, ◌==◌, if◌then◌else◌, Option, Some, None, List, [], ◌∷◌}

-- the bytes before the first separator
abbrev pub before : ℕ → List ℕ → List ℕ
before sep [] = []
before sep (b ∷ bs) = if b == sep then [] else b ∷ before sep bs

-- the parts behind the first separator
abbrev pub parts_behind : ℕ → List ℕ → List (List ℕ)
parts_behind sep [] = []
parts_behind sep (b ∷ bs) = if b == sep then before sep bs ∷ parts_behind sep bs else parts_behind sep bs

-- the parts of a text that separators part
abbrev pub parts_of : ℕ → List ℕ → List (List ℕ)
parts_of sep bs = before sep bs ∷ parts_behind sep bs

-- the parts of what a separator leaves
abbrev pub parts_left : ℕ → Option (List ℕ) → List (List ℕ)
parts_left sep None = []
parts_left sep (Some rest) = parts_of sep rest
