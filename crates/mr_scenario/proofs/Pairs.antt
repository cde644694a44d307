-- Bytes of two hex digits.
use Rattle.std.proofs.Common.{◌≡◌, ℕ, zero, suc, ◌+◌, ◌*◌, ◌<◌, ◌≤◌, ◌/◌, ◌%◌, Bool, true, false, Option, Some, None, Ok, Err, option_and_then, option_map, List, [], ◌∷◌, ◌++◌, drop, length, get_or, drop-cons, drop_of_length-le, add-one, arith, refl, sym, ◌∙◌, ap}
use Rattle.std.proofs.lemmas.Bool.{le-leb}
use Rattle.std.proofs.lemmas.List.{append_assoc, append-nil}
use Rattle.std.specs.Prelude.{if◌then◌else◌, nat_le}
use Rattle.std.specs.Simd.{first_chunks}
use Rattle.mr_scenario.specs.Forms.{hex_digit, hex_byte, bytes_of, hex_word}
use Rattle.mr_scenario.specs.Kinds.{bad, word_as}
use Rattle.mr_scenario.specs.declared.stop.Kind.TheVariants as kind

-- the bytes of pairs of digits
abbrev pub pairs_of : List (List ℕ) → Option (List ℕ)
pairs_of [] = Some []
pairs_of (p ∷ ps) = hex_byte (hex_digit (get_or p 0 0)) (hex_digit (get_or p 1 0)) (pairs_of ps)

-- All pairs of digits are all digits.
pub pairs_whole : (k : ℕ) (w : List ℕ) → length w ≡ k * 2 → pairs_of (first_chunks 2 k w) ≡ bytes_of w
pairs_whole zero [] even = refl
pairs_whole zero (h ∷ w) even = absurd (omega (arith, even))
pairs_whole (suc k) [] even = absurd (omega (arith, even))
pairs_whole (suc k) (h ∷ []) even = absurd (omega (arith, even))
pairs_whole (suc k) (h ∷ l ∷ w) even = ap (hex_byte (hex_digit h) (hex_digit l)) (pairs_whole k w (omega (arith, even)))

pub pairs_are : (w : List ℕ) (ps : List (List ℕ)) → length w % 2 ≡ 0 → ps ≡ first_chunks 2 (length w / 2) w → pairs_of ps ≡ bytes_of w
pairs_are w ps even cut = ap pairs_of cut ∙ pairs_whole (length w / 2) w (omega (arith, even))

-- a digit without a second one
pub odd_none : (k : ℕ) (w : List ℕ) → length w ≡ k * 2 + 1 → bytes_of w ≡ None
odd_none zero [] odd = absurd (omega (arith, odd))
odd_none zero (h ∷ []) odd = refl
odd_none zero (h ∷ l ∷ w) odd = absurd (omega (arith, odd))
odd_none (suc k) [] odd = absurd (omega (arith, odd))
odd_none (suc k) (h ∷ []) odd = absurd (omega (arith, odd))
odd_none (suc k) (h ∷ l ∷ w) odd = rw (odd_none k w (omega (arith, odd))) (no_more (hex_digit h) (hex_digit l))
  where
    no_more : (high low : Option ℕ) → hex_byte high low None ≡ None
    no_more None low = refl
    no_more (Some h) None = refl
    no_more (Some h) (Some l) = refl

-- the byte of two digits
abbrev pub pair_byte : Option ℕ → Option ℕ → Option ℕ
pair_byte high low = option_and_then (λ h. option_map (λ l. h * 16 + l) low) high

-- A byte more is read, and the others follow.
byte_first : (done : List ℕ) (high low : Option ℕ) (byte : ℕ) (more : Option (List ℕ)) → pair_byte high low ≡ Some byte →
    option_map (λ bs. done ++ byte ∷ [] ++ bs) more ≡ option_map (λ bs. done ++ bs) (hex_byte high low more)
byte_first done None low byte more reads = cc reads
byte_first done (Some h) None byte more reads = cc reads
byte_first done (Some h) (Some l) byte None reads = refl
byte_first done (Some h) (Some l) byte (Some bs) reads =
    let same : h * 16 + l ≡ byte = cc reads in
    rw (same, append_assoc done (byte ∷ []) bs) refl

byte_none : (high low : Option ℕ) (more : Option (List ℕ)) → pair_byte high low ≡ None → hex_byte high low more ≡ None
byte_none None low more reads = refl
byte_none (Some h) None more reads = refl
byte_none (Some h) (Some l) more reads = absurd (cc reads)

abbrev pub byte_at : List (List ℕ) → ℕ → List ℕ → Option ℕ
byte_at ps i d = pair_byte (hex_digit (get_or (get_or ps i d) 0 0)) (hex_digit (get_or (get_or ps i d) 1 0))

-- Pair i is read, and the others follow.
pub pair_first : (done : List ℕ) (ps : List (List ℕ)) (i : ℕ) (d : List ℕ) (byte : ℕ) → i < length ps → byte_at ps i d ≡ Some byte →
    option_map (λ bs. done ++ byte ∷ [] ++ bs) (pairs_of (drop (i + 1) ps)) ≡ option_map (λ bs. done ++ bs) (pairs_of (drop i ps))
pair_first done ps i d byte within reads =
    rw (add-one, drop-cons ps i d within) (byte_first done (hex_digit (get_or (get_or ps i d) 0 0)) (hex_digit (get_or (get_or ps i d) 1 0)) byte (pairs_of (drop (suc i) ps)) reads)

-- Pair i is none.
pub pair_none : (done : List ℕ) (ps : List (List ℕ)) (i : ℕ) (d : List ℕ) (all : Option (List ℕ)) → i < length ps → byte_at ps i d ≡ None →
    option_map (λ bs. done ++ bs) (pairs_of (drop i ps)) ≡ all → all ≡ None
pair_none done ps i d all within reads same =
    let none : pairs_of (drop i ps) ≡ None =
    rw (drop-cons ps i d within) (byte_none (hex_digit (get_or (get_or ps i d) 0 0)) (hex_digit (get_or (get_or ps i d) 1 0)) (pairs_of (drop (suc i) ps)) reads) in
    sym same ∙ ap (option_map (λ bs. done ++ bs)) none

-- No pair is left.
pub pairs_done : (done : List ℕ) (ps : List (List ℕ)) (i : ℕ) (all : Option (List ℕ)) → length ps ≤ i → option_map (λ bs. done ++ bs) (pairs_of (drop i ps)) ≡ all → all ≡ Some done
pairs_done done ps i all over same = sym same ∙ rw (drop_of_length-le ps over, append-nil done) refl

-- what a word of hex digits gives, and what one that is none gives
pub hex_read : (place : ℕ) (w bs : List ℕ) → length w ≤ 131070 → bytes_of w ≡ Some bs → hex_word place w ≡ Ok bs
hex_read place w bs most reads = rw (le-leb (length w) 131070 most, reads) refl

pub hex_refused : (place : ℕ) (w : List ℕ) → bytes_of w ≡ None → hex_word place w ≡ Err (bad place w kind.Hex)
hex_refused place w none = by_test (nat_le (length w) 131070)
  where
    by_test : (test : Bool) → word_as (if test then bytes_of w else None) place w kind.Hex ≡ Err (bad place w kind.Hex)
    by_test true = rw none refl
    by_test false = refl
