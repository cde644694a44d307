-- Words in the bytes of a line. What is left of a line begins with the space before its next word, or is empty.
use Rattle.std.specs.Prelude.{◌≡◌, ℕ, ◌==◌, ◌&&◌, ◌||◌, Bool, not, Option, Some, None, List, [], ◌∷◌, length, slice_index, if◌then◌else◌}
use Rattle.mr_words.specs.Numbers.{is_digit}
use Rattle.mr_words.specs.Parts.{parts_of}
use Rattle.mr_lines.specs.Forms.{Word}

-- the words of what is left
abbrev pub behind : List ℕ → List Word
behind [] = []
behind (b ∷ bs) = parts_of 32 bs

-- no word goes on here
abbrev pub ends : List ℕ → Bool
ends bs = length bs == 0 || slice_index bs 0 == 32

-- a comma stands here
abbrev pub begins_comma : List ℕ → Bool
begins_comma bs = not (length bs == 0) && slice_index bs 0 == 44

-- the digits with which bytes begin
abbrev pub digits_of : List ℕ → List ℕ
digits_of [] = []
digits_of (b ∷ bs) = if is_digit b then b ∷ digits_of bs else []

-- the bytes behind them
abbrev pub past_digits : List ℕ → List ℕ
past_digits [] = []
past_digits (b ∷ bs) = if is_digit b then past_digits bs else b ∷ bs

-- a digit, and it is no zero before other digits
abbrev pub begins_number : List ℕ → Bool
begins_number bs =
    not (length bs == 0) && is_digit (slice_index bs 0) && (not (slice_index bs 0 == 48) || length bs == 1 || not (is_digit (slice_index bs 1)))

-- What a function read of bytes, and what is left of them, are what the words say.
abbrev pub Gives : {A R : Type 0} → (R → List ℕ) → Option (A × R) → Option (A × List Word) → Type 0
Gives bytes None read = read ≡ None
Gives bytes (Some x) read = read ≡ Some (x.0, behind (bytes x.1))
