-- Worked words of the command line.
use Rattle.std.specs.Prelude.{ℕ, Option, List, [], ◌∷◌, codes}
use Rattle.mr_command.specs.Commands.{Asked, command_of}

-- what `gen` with these words asks for
abbrev pub generated : List ℕ → List ℕ → List ℕ → Option Asked
generated seed lanes packets = command_of (codes "gen" ∷ seed ∷ lanes ∷ packets ∷ [])
