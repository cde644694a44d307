-- Numbers and addresses as words.
use Rattle.std.specs.Prelude.{ℕ, ◌+◌, ◌-◌, ◌*◌, ◌==◌, ◌&&◌, ◌||◌, Bool, not, nat_lt, nat_le, if◌then◌else◌, Option, Some, None, option_and_then, List, [], ◌∷◌, length, fold, slice_index}
use Rattle.std.specs.List.{list_all}
use Rattle.mr_words.specs.Parts.{parts_of}

abbrev pub is_digit : ℕ → Bool
is_digit b = nat_le 48 b && nat_le b 57

-- one byte, or several of which the first is no zero
abbrev pub leads_well : List ℕ → Bool
leads_well w = length w == 1 || (nat_lt 1 (length w) && not (slice_index w 0 == 48))

-- digits without sign, and no zero in front of others
abbrev pub is_numeral : List ℕ → Bool
is_numeral w = leads_well w && list_all is_digit w

-- one more decimal digit
abbrev pub digit_on : ℕ → ℕ → ℕ
digit_on value b = value * 10 + (b - 48)

-- the number that a word spells, where it is at most `most`
abbrev pub number_of : ℕ → List ℕ → Option ℕ
number_of most w = if is_numeral w && nat_le (fold digit_on 0 w) most then Some (fold digit_on 0 w) else None

-- an address from its four numbers
abbrev pub joined : Option ℕ → Option ℕ → Option ℕ → Option ℕ → Option ℕ
joined (Some a) (Some b) (Some c) (Some d) = Some (((a * 256 + b) * 256 + c) * 256 + d)
joined _ _ _ _ = None

-- just four parts
abbrev pub four_parts : List (List ℕ) → Option (List ℕ × List ℕ × List ℕ × List ℕ)
four_parts (a ∷ b ∷ c ∷ d ∷ []) = Some (a, b, c, d)
four_parts _ = None

-- an address: four numbers of 0 to 255 parted by dots
abbrev pub address_of : List ℕ → Option ℕ
address_of w =
    option_and_then (λ p. joined (number_of 255 p.0) (number_of 255 p.1) (number_of 255 p.2) (number_of 255 p.3)) (four_parts (parts_of 46 w))
