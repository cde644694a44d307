-- Words that are put behind others.
use Rattle.std.specs.Prelude.{ℕ, List, ◌∷◌, flat_map}
use Rattle.mr_lines.specs.Forms.{Word}

-- words, each behind a space
abbrev pub led : List Word → List ℕ
led ws = flat_map (λ w. 32 ∷ w) ws
