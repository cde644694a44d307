-- Records: fields one behind another, and the numbers that stand in them.
use Rattle.std.specs.Prelude.{ℕ, ◌+◌, List, [], ◌∷◌, ◌++◌, take, drop, sum_by}
use Rattle.byteorder.specs.Endian.{big_bytes, big_number, little_bytes, little_number}

-- A field: a number of so many bytes, the lowest first; an address, four bytes with the highest
-- first; or so many numbers of one byte each.
pub data Field : Type 0 where
  number : ℕ → Field
  address : Field
  bytes : ℕ → Field

-- how many bytes it has
abbrev pub width : Field → ℕ
width (number n) = n
width address = 4
width (bytes n) = n

-- The bytes of a record with these numbers in its fields.
abbrev pub record_bytes : List Field → List ℕ → List ℕ
record_bytes (number n ∷ fs) (x ∷ xs) = little_bytes n x ++ record_bytes fs xs
record_bytes (address ∷ fs) (x ∷ xs) = big_bytes 4 x ++ record_bytes fs xs
record_bytes (bytes n ∷ fs) xs = take n xs ++ record_bytes fs (drop n xs)
record_bytes _ _ = []

-- the numbers in the fields of a record, the first of which stands at i
abbrev pub numbers_from : ℕ → List Field → List ℕ → List ℕ
numbers_from i [] bs = []
numbers_from i (number n ∷ fs) bs = little_number n (drop i bs) ∷ numbers_from (i + n) fs bs
numbers_from i (address ∷ fs) bs = big_number 4 (drop i bs) ∷ numbers_from (i + 4) fs bs
numbers_from i (bytes n ∷ fs) bs = take n (drop i bs) ++ numbers_from (i + n) fs bs

-- The numbers in the fields of a record.
abbrev pub record_numbers : List Field → List ℕ → List ℕ
record_numbers fs bs = numbers_from 0 fs bs

-- how many bytes a record has
abbrev pub record_length : List Field → ℕ
record_length fs = sum_by width fs
