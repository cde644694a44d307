-- Laws of numbers and addresses as words.
use Rattle.std.proofs.Common.{◌≡◌, ℕ, ◌^◌, ◌<◌, ◌≤◌, ◌==◌, ◌&&◌, true, false, not, List, [], ◌∷◌, Some, None, length, get_or, slice_index, fold, decimal, bytes_eq, refl, sym, ap, ◌∙◌, arith, eqb-true, ne_eqb, leb-true, le-leb, nat_le, rules, eq-eqb, inl, inr, ltb-true, lt-ltb, eq-zero-or-pos, ◌⊎◌, lit<}
use Rattle.std.proofs.lemmas.Bool.{and_parts, and_from, cases_Bool, or_cases}
use Rattle.std.proofs.lemmas.Fmt.{decimal-digits_value, digits_decimal, digits_value-decimal, decimal_nonempty, first_decimal, decimal_digit}
use Rattle.std.proofs.lemmas.Option.{cond_some}
use Rattle.std.proofs.lemmas.Str.Parse.{IsNumeralModel, numerals_by_fold}
use Rattle.std.specs.List.{list_all}
use Rattle.mr_words.specs.Numbers.{is_digit, leads_well, is_numeral, digit_on, number_of}
use Rattle.mr_lines.specs.Forms.{Word}
use Rattle.mr_lines.specs.Laws.{is_free}
use Rattle.mr_lines.proofs.FieldLaws.{IsWord}
use Rattle.mr_lines.proofs.PartLaws.{lacks}

-- the numbers that digits spell
abbrev folded : ℕ → List ℕ → ℕ
folded value ds = fold digit_on value ds

own : IsNumeralModel (λ ds. list_all is_digit ds ≡ true) (folded 0)
own = numerals_by_fold _ (search rules) folded (search rules)

-- no byte of digits is another byte
digit_other : (b c : ℕ) → is_digit b ≡ true → (c < 48) ⊎ (57 < c) → (b == c) ≡ false
digit_other b c digit other =
    let both = and_parts _ _ digit in
    let low : 48 ≤ b = leb-true 48 b both.0 in
    let high : b ≤ 57 = leb-true b 57 both.1 in
    ne_eqb b c (λ same. elim other [ inl l ↦ omega arith | inr l ↦ omega arith ])

pub digits_lack : (c : ℕ) → (c < 48) ⊎ (57 < c) → (ds : List ℕ) → list_all is_digit ds ≡ true → lacks c ds ≡ true
digits_lack c other [] digits = refl
digits_lack c other (b ∷ ds) digits =
    let split = and_parts _ _ digits in
    and_from _ _ (ap not (digit_other b c split.0 other)) (digits_lack c other ds split.1)

pub digits_free : (ds : List ℕ) → list_all is_digit ds ≡ true → list_all is_free ds ≡ true
digits_free [] digits = refl
digits_free (b ∷ ds) digits =
    let split = and_parts _ _ digits in
    let space : (b == 32) ≡ false = digit_other b 32 split.0 (inl (lit< tt)) in
    let feed : (b == 10) ≡ false = digit_other b 10 split.0 (inl (lit< tt)) in
    and_from _ _ (and_from _ _ (ap not space) (ap not feed)) (digits_free ds split.1)

pub decimal_digits : (n : ℕ) → n < 2 ^ 64 → list_all is_digit (decimal n) ≡ true
decimal_digits n small = digits_decimal own n small

-- one byte, or several and the first is no zero
leading : (w : Word) → leads_well w ≡ true → (0 < length w) × (get_or w 0 0 ≡ 48 → length w ≡ 1)
leading w leads = elim (or_cases _ _ leads) [
  | inl one ↦ let is : length w ≡ 1 = eqb-true (length w) 1 one in (omega arith, λ zero. is)
  | inr more ↦
      let split = and_parts _ _ more in
      let long : 1 < length w = ltb-true 1 (length w) split.0 in
      (omega arith, λ zero. cc (split.1, eq-eqb (get_or w 0 0) 48 zero))
]

decimal_leads : (n : ℕ) → n < 2 ^ 64 → leads_well (decimal n) ≡ true
decimal_leads n small = elim (eq-zero-or-pos n) [
  | inl zero ↦ rw (zero, decimal_digit 0 (lit< tt)) refl
  | inr some ↦
      let first : 48 < get_or (decimal n) 0 0 = first_decimal n some small in
      let long : 0 < length (decimal n) = decimal_nonempty n small in
      let other : (slice_index (decimal n) 0 == 48) ≡ false = ne_eqb _ _ (omega arith) in
      elim (cases_Bool (length (decimal n) == 1)) [
        | inl one ↦ rw one refl
        | inr more ↦
            let apart : length (decimal n) ≡ 1 → ⊥ = λ e. cc (more, eq-eqb (length (decimal n)) 1 e) in
            rw (more, other, lt-ltb 1 (length (decimal n)) (omega arith)) refl
      ]
]

pub number_takes : (most : ℕ) → most < 2 ^ 64 → (w : Word) (n : ℕ) → number_of most w ≡ Some n → (w ≡ decimal n) × (n ≤ most)
number_takes most small w n e =
    let read = cond_some (is_numeral w && nat_le (fold digit_on 0 w) most) (fold digit_on 0 w) n e in
    let split = and_parts _ _ read.0 in
    let numeral = and_parts _ _ split.0 in
    let lead = leading w numeral.0 in
    let within : fold digit_on 0 w ≤ most = leb-true (fold digit_on 0 w) most split.1 in
    (sym (decimal-digits_value own w numeral.1 lead.0 lead.1 (omega arith)) ∙ ap decimal read.1, omega (arith, read.1))

pub number_again : (most n : ℕ) → most < 2 ^ 64 → n ≤ most → number_of most (decimal n) ≡ Some n
number_again most n small fits =
    let value : fold digit_on 0 (decimal n) ≡ n = digits_value-decimal own n (omega arith) in
    let digits = decimal_digits n (omega arith) in
    let leads = decimal_leads n (omega arith) in
    rw (leads, digits, value, le-leb n most fits) refl

pub number_word : (most : ℕ) → most < 2 ^ 64 → IsWord (number_of most) decimal (λ n. n ≤ most)
number_word most small = record {
  takes = number_takes most small;
  again = λ n fits. number_again most n small fits;
  clean = λ n fits. digits_free (decimal n) (decimal_digits n (omega arith));
}

pub same_bytes : (v w : List ℕ) → bytes_eq v w ≡ true → v ≡ w
same_bytes [] [] e = refl
same_bytes [] (c ∷ w) e = absurd (cc)
same_bytes (b ∷ v) [] e = absurd (cc)
same_bytes (b ∷ v) (c ∷ w) e =
    let split = and_parts _ _ e in
    (λ i. eqb-true b c split.0 i ∷ same_bytes v w split.1 i)

-- A number is no word that spells none.
pub no_keyword : (most n : ℕ) (k : Word) → most < 2 ^ 64 → n ≤ most → number_of most k ≡ None → bytes_eq (decimal n) k ≡ false
no_keyword most n k small fits none = elim (cases_Bool (bytes_eq (decimal n) k)) [
  | inl same ↦
      let is : decimal n ≡ k = same_bytes (decimal n) k same in
      absurd (cc (number_again most n small fits, ap (number_of most) is, none))
  | inr other ↦ other
]
