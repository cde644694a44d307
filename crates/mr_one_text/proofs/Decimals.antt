-- The decimal of any number, however great, has digits alone, and has one.
use Rattle.std.proofs.Common.{◌≡◌, ℕ, zero, suc, ◌+◌, ◌/◌, ◌%◌, ◌<◌, ◌≤◌, ◌==◌, Bool, true, false, cond, List, [], ◌∷◌, decimal, refl, sym, ap, subst, arith, lt-ltb, le-leb, leb-true}
use Rattle.std.proofs.lemmas.Bool.{and_parts, and_from}
use Rattle.std.specs.Fmt.{digits, digits_onto, digit_glyph}
use Rattle.std.specs.List.{list_all}
use Rattle.std.specs.Prelude.{if◌then◌else◌}
use Rattle.mr_words.specs.Numbers.{is_digit}

abbrev pub AreDigits : List ℕ → Type 0
AreDigits [] = ⊥
AreDigits (b ∷ bs) = (is_digit b ≡ true) × (list_all is_digit bs ≡ true)

glyph_digit : (d : ℕ) → d < 10 → is_digit (digit_glyph false d) ≡ true
glyph_digit d small =
    let is : digit_glyph false d ≡ 48 + d = ap (λ (b : Bool). cond b (48 + d) (87 + d)) (lt-ltb d 10 small) in
    subst (λ (b : ℕ). is_digit b ≡ true) (sym is) (and_from _ _ (le-leb 48 (48 + d) (omega arith)) (le-leb (48 + d) 57 (omega arith)))

last_digit : (n : ℕ) → is_digit (digit_glyph false (n % 10)) ≡ true
last_digit n = glyph_digit (n % 10) (omega arith)

either_digits : (b : Bool) (xs ys : List ℕ) → AreDigits xs → AreDigits ys → AreDigits (if b then xs else ys)
either_digits true xs ys p q = p
either_digits false xs ys p q = q

onto_digits : (k n x : ℕ) (acc : List ℕ) → AreDigits (x ∷ acc) → AreDigits (digits_onto k 10 false n (x ∷ acc))
onto_digits zero n x acc a = a
onto_digits (suc k) n x acc a =
    let g = digit_glyph false (n % 10) in
    let all : AreDigits (g ∷ x ∷ acc) = (last_digit n, and_from _ _ a.0 a.1) in
    either_digits (n / 10 == 0) (g ∷ x ∷ acc) _ all (onto_digits k (n / 10) g (x ∷ acc) all)

pub decimal_digits : (n : ℕ) → AreDigits (decimal n)
unfolding digits
decimal_digits n =
    let g = digit_glyph false (n % 10) in
    let all : AreDigits (g ∷ []) = (last_digit n, refl) in
    either_digits (n / 10 == 0) (digit_glyph false (n % 10) ∷ []) (digits_onto 63 10 false (n / 10) (digit_glyph false (n % 10) ∷ [])) all (onto_digits 63 (n / 10) g [] all)

all_digits : (ds : List ℕ) → AreDigits ds → list_all is_digit ds ≡ true
all_digits [] a = absurd a
all_digits (d ∷ ds) a = and_from _ _ a.0 a.1

pub decimal_all : (n : ℕ) → list_all is_digit (decimal n) ≡ true
decimal_all n = all_digits (decimal n) (decimal_digits n)

-- the first byte
abbrev pub first_byte : List ℕ → ℕ
first_byte [] = 0
first_byte (b ∷ bs) = b

first_within : (ds : List ℕ) → AreDigits ds → (48 ≤ first_byte ds) × (first_byte ds ≤ 57)
first_within [] a = absurd a
first_within (d ∷ ds) a = let both = and_parts _ _ a.0 in (leb-true 48 d both.0, leb-true d 57 both.1)

pub decimal_first : (n : ℕ) → (48 ≤ first_byte (decimal n)) × (first_byte (decimal n) ≤ 57)
decimal_first n = first_within (decimal n) (decimal_digits n)
