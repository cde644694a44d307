-- Names of devices and files.
use Rattle.std.specs.Prelude.{ℕ, ◌==◌, ◌&&◌, ◌||◌, Bool, not, nat_lt, nat_le, List, length, bytes_eq, codes, take, slice_index}
use Rattle.std.specs.List.{list_all, list_any}
use Rattle.mr_words.specs.Numbers.{is_digit}

-- the bytes that may stand in a word outside comments: 0x20 to 0x7E
abbrev pub is_plain : ℕ → Bool
is_plain b = nat_le 32 b && nat_le b 126

abbrev pub is_clean : List ℕ → Bool
is_clean w = list_all is_plain w

abbrev pub is_letter : ℕ → Bool
is_letter b = (nat_le 65 b && nat_le b 90) || (nat_le 97 b && nat_le b 122)

-- a letter, a digit, `.`, `_`, `-` or `:`
abbrev pub is_name_byte : ℕ → Bool
is_name_byte b = is_letter b || is_digit b || b == 46 || b == 95 || b == 45 || b == 58

-- 1 to 15 bytes, a letter first
abbrev pub begins_name : List ℕ → Bool
begins_name w = nat_lt 0 (length w) && nat_le (length w) 15 && is_letter (slice_index w 0)

-- a name begins so, has such bytes alone, and is not the register device's
abbrev pub is_device_name : List ℕ → Bool
is_device_name w = begins_name w && not (bytes_eq w (codes "pimreg")) && list_all is_name_byte w

-- a file of the folder: 1 to 255 bytes without `/`, neither `.` nor `..`, and not beginning with `out-`
abbrev pub is_file : List ℕ → Bool
is_file w =
    nat_lt 0 (length w) && nat_le (length w) 255 && is_clean w && not (list_any (λ b. b == 47) w)
    && not (bytes_eq w (codes ".")) && not (bytes_eq w (codes "..")) && not (bytes_eq (take 4 w) (codes "out-"))
