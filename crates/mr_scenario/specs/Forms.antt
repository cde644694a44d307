-- The forms of single words: devices, local fields, thresholds, hex digits.
use Rattle.std.specs.Prelude.{ℕ, ◌+◌, ◌-◌, ◌*◌, ◌==◌, ◌&&◌, Bool, true, false, nat_le, if◌then◌else◌, Option, Some, None, option_and_then, Result, Ok, Err, List, [], ◌∷◌, length, bytes_eq, codes, slice_index_or, slice_set}
use Rattle.std.specs.List.{list_any}
use Rattle.mr_scenario.specs.Kinds.{in_word, word_as}
use Rattle.mr_scenario.specs.declared.scenario.Named.{Named}
use Rattle.mr_scenario.specs.declared.stop.Kind.TheVariants as kind
use Rattle.mr_scenario.specs.declared.stop.Mistake.{Mistake}
use Rattle.mr_words.specs.Binds.{◌>>=◌}
use Rattle.mr_words.specs.Items.{item_of}
use Rattle.mr_words.specs.Numbers.{is_digit, number_of, address_of}

-- a number of at least and at most so much
abbrev pub number_in : ℕ → ℕ → List ℕ → Option ℕ
number_in least most w = option_and_then (λ n. if nat_le least n then Some n else None) (number_of most w)

-- a number word of at most so much, and one of at least 1, or what is wrong with the word at this place
abbrev pub number_word : ℕ → ℕ → List ℕ → Result ℕ Mistake
number_word place most w = word_as (number_of most w) place w (kind.Number 0 most)

abbrev pub positive_word : ℕ → ℕ → List ℕ → Result ℕ Mistake
positive_word place most w = word_as (number_in 1 most w) place w (kind.Number 1 most)

abbrev pub address_word : ℕ → List ℕ → Result ℕ Mistake
address_word place w = word_as (address_of w) place w kind.Address

abbrev pub is_taken : List Named → List ℕ → Bool
is_taken devices w = list_any (λ d. bytes_eq d.name w) devices

-- the number of the device with this name, where the first of these has number n
abbrev pub device_from : ℕ → List ℕ → List Named → Option ℕ
device_from n w [] = None
device_from n w (d ∷ ds) = if bytes_eq d.name w then Some n else device_from (n + 1) w ds

-- the number of the device with this name, from 1
abbrev pub device_of : List ℕ → List Named → Option ℕ
device_of w devices = device_from 1 w devices

-- a local field: `@N`, else an address as a number
abbrev pub local_word : ℕ → List ℕ → Result ℕ Mistake
local_word place [] = Err (in_word place kind.Address)
local_word place (b ∷ w) = if b == 64 then number_word place 4294967295 w else address_word place (b ∷ w)

-- The thresholds with those of further items `V:T`, the first of them at this place: each vif stands once.
abbrev pub thresholds_from : ℕ → List ℕ → List Bool → List (List ℕ) → Result (List ℕ) Mistake
thresholds_from place ttls seen [] = Ok ttls
thresholds_from place ttls seen (w ∷ ws) =
    word_as (item_of w) place w kind.Threshold >>= λ i.
    if slice_index_or seen i.0 false then Err (in_word place kind.Threshold)
    else thresholds_from (place + 1) (slice_set ttls i.0 i.1) (slice_set seen i.0 true) ws

-- the value of a hex digit
abbrev pub hex_digit : ℕ → Option ℕ
hex_digit b =
    if is_digit b then Some (b - 48)
    else (if nat_le 97 b && nat_le b 102 then Some (b - 87)
    else (if nat_le 65 b && nat_le b 70 then Some (b - 55) else None))

abbrev pub hex_byte : Option ℕ → Option ℕ → Option (List ℕ) → Option (List ℕ)
hex_byte (Some h) (Some l) (Some bs) = Some ((h * 16 + l) ∷ bs)
hex_byte _ _ _ = None

-- the bytes that hex digits spell, two each
abbrev pub bytes_of : List ℕ → Option (List ℕ)
bytes_of [] = Some []
bytes_of (h ∷ []) = None
bytes_of (h ∷ l ∷ ds) = hex_byte (hex_digit h) (hex_digit l) (bytes_of ds)

-- up to 131,070 hex digits
abbrev pub hex_of : List ℕ → Option (List ℕ)
hex_of w = if nat_le (length w) 131070 then bytes_of w else None

abbrev pub hex_word : ℕ → List ℕ → Result (List ℕ) Mistake
hex_word place w = word_as (hex_of w) place w kind.Hex

-- the bytes of a raw option: hex digits, or `-` for none
abbrev pub raw_word : ℕ → List ℕ → Result (List ℕ) Mistake
raw_word place w = if bytes_eq w (codes "-") then Ok [] else hex_word place w
