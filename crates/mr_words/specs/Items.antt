-- Items `V:T`: a vif, 0 to 31, and its threshold, 0 to 255, with one colon between them and nothing else.
use Rattle.std.specs.Prelude.{ℕ, Option, Some, None, List, [], ◌∷◌}
use Rattle.mr_words.specs.Numbers.{number_of}
use Rattle.mr_words.specs.Parts.{parts_of}

-- a pair where both numbers are there
abbrev pub pair_of : Option ℕ → Option ℕ → Option (ℕ × ℕ)
pair_of (Some v) (Some t) = Some (v, t)
pair_of _ _ = None

-- just two parts: the vif, and its threshold
abbrev pub item_parts : List (List ℕ) → Option (ℕ × ℕ)
item_parts (v ∷ t ∷ []) = pair_of (number_of 31 v) (number_of 255 t)
item_parts _ = None

-- the vif and the threshold that a word `V:T` spells, each as a number without sign and without zeros in front
abbrev pub item_of : List ℕ → Option (ℕ × ℕ)
item_of w = item_parts (parts_of 58 w)
