-- The map of a store in memory, and its calls that are to fail.
use Rattle.std.specs.Prelude.{ℕ, ◌≡◌, ◌<◌, ◌+◌, ◌-◌, ◌^◌, ◌==◌, min, length, slice_index_or, Bool, nat_eq, Option, Some, None, List, [], ◌∷◌, if◌then◌else◌}
use Rattle.std.specs.Cmp.Lexicographic.{pointwise}
use Rattle.std.specs.Global.{Vec}
use Rattle.std.specs.List.{list_any}

-- whether two names are the same bytes
abbrev pub bytes_eq : List ℕ → List ℕ → Bool
bytes_eq = pointwise nat_eq

-- the bytes of the first file of this name
abbrev pub bytes_of : List (List ℕ × Vec ℕ) → List ℕ → Option (List ℕ)
bytes_of [] name = None
bytes_of (file ∷ files) name =
    if bytes_eq file.0 name then Some file.1.items else bytes_of files name

-- A file of this name stands at i.
abbrev pub IsPlaceOf : List ℕ → List (List ℕ × Vec ℕ) → ℕ → Type 0
IsPlaceOf name files i =
    (i < length files) × ((d : List ℕ × Vec ℕ) → (slice_index_or files i d).0 ≡ name)

-- whether the call behind so many calls is one of those that are to fail; numbers stop at 2^64 - 1
abbrev pub is_to_fail : List ℕ → ℕ → Bool
is_to_fail fails calls = list_any (λ n. n == min (calls + 1) (2 ^ 64 - 1)) fails
