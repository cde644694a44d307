-- Where the lines of each lane stand, by rising index.
use Rattle.std.specs.Prelude.{ℕ, ◌+◌, ◌<◌, ◌==◌, if◌then◌else◌, Option, option_map, List, [], ◌∷◌, length, find, slice_index_or}
use Rattle.mr_model.specs.declared.ending.FateLine.{FateLine}
use Rattle.mr_fates.specs.declared.lane.Place.{Place}

-- the places of a lane's lines, and how many there may be
pub record PlaceList : Type 0 where
  pub places : List Place
  pub room : ℕ

abbrev pub no_place : Place
no_place = record { index = 0; line = 0 }

abbrev pub index_at : List Place → ℕ → ℕ
index_at places i = let place = slice_index_or places i no_place in place.index

-- the indexes rise, so none comes twice
abbrev pub IsRising : List Place → Type 0
IsRising places = (i j : ℕ) → i < j → j < length places → index_at places i < index_at places j

-- where the line with this index stands
abbrev pub line_in : List Place → ℕ → Option ℕ
line_in places index = option_map (λ p. p.line) (find (λ p. p.index == index) places)

-- the places of the lines of lane n, where the first line stands at place `from`
abbrev pub places_from : ℕ → ℕ → List FateLine → List Place
places_from n from [] = []
places_from n from (f ∷ lines) =
    if f.lane.0 == n
    then record { index = f.index; line = from } ∷ places_from n (from + 1) lines
    else places_from n (from + 1) lines
