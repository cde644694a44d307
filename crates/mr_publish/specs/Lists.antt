-- Lists of changes whose numbers rise.
use Rattle.std.specs.Prelude.{ℕ, nat_le, if◌then◌else◌, List, [], ◌∷◌}
use Rattle.mr_model.specs.declared.change.Change.{Change}

-- the number of the last change, and n where there is none
abbrev pub last_number : ℕ → List Change → ℕ
last_number n [] = n
last_number n (c ∷ cs) = last_number c.number cs

-- of two lists the one with the later last change, and the second where these are one
abbrev pub later : List Change → List Change → List Change
later xs ys = if nat_le (last_number 0 xs) (last_number 0 ys) then ys else xs
