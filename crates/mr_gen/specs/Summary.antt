-- The summary of a history as a text of six lines.
use Rattle.std.specs.Prelude.{ℕ, ◌+◌, List, [], ◌∷◌, ◌++◌, codes, decimal}
use Rattle.mr_gen.specs.Sums.{busiest, bytes, copies, fast, slow}
use Rattle.mr_model.specs.declared.entry.Entry.{Entry}
use Rattle.mr_model.specs.declared.limits.Limits.{Limits}

-- a word and a number, parted by a space, and a line feed
abbrev pub line : List ℕ → ℕ → List ℕ
line word n = word ++ 32 ∷ decimal n ++ 10 ∷ []

-- the same with two numbers
abbrev pub line_of_two : List ℕ → ℕ → ℕ → List ℕ
line_of_two word n m = word ++ 32 ∷ decimal n ++ 32 ∷ decimal m ++ 10 ∷ []

-- `packets N`, `fast N`, `slow N`, `copies N`, `bytes N`, and `busiest R N` with an (S,G) entry's number and its packets
abbrev pub summary : Limits → List Entry → List ℕ
summary limits h =
    line (codes "packets") (fast h + slow h)
    ++ line (codes "fast") (fast h)
    ++ line (codes "slow") (slow h)
    ++ line (codes "copies") (copies h)
    ++ line (codes "bytes") (bytes limits h)
    ++ line_of_two (codes "busiest") (busiest limits h).number (busiest limits h).packets
