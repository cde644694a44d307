-- What the words of the command line ask for.
use Rattle.std.specs.Prelude.{ℕ, ◌*◌, ◌≤◌, ◌&&◌, Bool, not, nat_lt, nat_le, if◌then◌else◌}
use Rattle.std.specs.Prelude.{Option, Some, None, option_and_then}
use Rattle.std.specs.Prelude.{List, [], ◌∷◌, length, take, bytes_eq, codes}
use Rattle.mr_base.specs.declared.limits.TheConstants.{MOST_ITEMS, MOST_LANES}
use Rattle.mr_command.specs.declared.reading.Command.{Command}
use Rattle.mr_command.specs.declared.reading.Command.TheVariants as command
use Rattle.mr_command.specs.declared.reading.TheConstants.{MOST_SEED}
use Rattle.mr_words.specs.Numbers.{number_of}

pub data Asked : Type 0 where
  -- the scenario in this file is run
  Replay : List ℕ → Asked
  -- the history in the second file is judged as one of the scenario in the first
  Check : List ℕ → List ℕ → Asked
  -- a scenario is made from a seed, for so many lanes with so many packets each, and run
  Gen : ℕ → ℕ → ℕ → Asked

-- a word that may name a file: 1 to 255 bytes, which do not begin with `out-`
abbrev pub is_file_word : List ℕ → Bool
is_file_word w =
    nat_lt 0 (length w) && nat_le (length w) 255 && not (bytes_eq (take 4 w) (codes "out-"))

abbrev pub if_so : {A : Type 0} → Bool → A → Option A
if_so test x = if test then Some x else None

-- a number from the least to the most
abbrev pub number_in : ℕ → ℕ → List ℕ → Option ℕ
number_in least most w = option_and_then (λ n. if_so (nat_le least n) n) (number_of most w)

-- all lanes together have no more packets than a scenario may have items
abbrev pub gen_of : Option ℕ → Option ℕ → Option ℕ → Option Asked
gen_of (Some seed) (Some lanes) (Some packets) =
    if_so (nat_le (lanes * packets) MOST_ITEMS) (Gen seed lanes packets)
gen_of _ _ _ = None

-- the forms `replay SCENARIO`, `check SCENARIO HISTORY` and `gen SEED LANES PACKETS`, and no other
abbrev pub command_of : List (List ℕ) → Option Asked
command_of (word ∷ file ∷ []) =
    if bytes_eq word (codes "replay") then if_so (is_file_word file) (Replay file) else None
command_of (word ∷ file ∷ history ∷ []) =
    if bytes_eq word (codes "check")
    then if_so (is_file_word file && is_file_word history) (Check file history)
    else None
command_of (word ∷ seed ∷ lanes ∷ packets ∷ []) =
    if bytes_eq word (codes "gen")
    then gen_of (number_of MOST_SEED seed) (number_in 1 MOST_LANES lanes)
    (number_in 1 MOST_ITEMS packets)
    else None
command_of _ = None

-- a command as contracts see it
abbrev pub asked_by : Command → Asked
asked_by (command.Replay file) = Replay file.now
asked_by (command.Check file history) = Check file.now history.now
asked_by (command.Gen seed lanes packets) = Gen seed lanes packets

-- The words of a command are in their ranges: files have 1 to 255 bytes, and a seed makes a
-- scenario that fits.
abbrev pub IsName : List ℕ → Type 0
IsName w = (1 ≤ length w) × (length w ≤ 255)

abbrev pub IsInRange : Command → Type 0
IsInRange (command.Replay file) = IsName file.now
IsInRange (command.Check file history) = IsName file.now × IsName history.now
IsInRange (command.Gen seed lanes packets) =
    (seed ≤ MOST_SEED) × (1 ≤ lanes) × (lanes ≤ MOST_LANES) × (1 ≤ packets)
    × (lanes * packets ≤ MOST_ITEMS)
