-- What stands in front of a text.
use Rattle.std.proofs.Common.{◌+◌, ◌-◌, ◌*◌, ◌/◌, ◌%◌, ◌≤◌, ◌<◌, arith, leb-true, ◌≡◌, ℕ, true, Some, List, [], ◌∷◌, ◌++◌, decimal, sym, ap, ◌∙◌, append_assoc}
use Rattle.std.specs.Prelude.{option_and_then}
use Rattle.mr_lines.proofs.LineLaws.{line_read, line_is_one}
use Rattle.std.proofs.lemmas.Bool.{and_parts}
use Rattle.std.proofs.lemmas.Fmt.{decimal_digit, decimal_step}
use Rattle.mr_lines.proofs.PartLaws.{line_first}
use Rattle.mr_lines.specs.Fit.{RecordFits}
use Rattle.mr_lines.specs.Forms.{spaced, line_bytes}
use Rattle.mr_lines.specs.Lines.{record_words}
use Rattle.mr_lines.specs.Reading.{as_record}
use Rattle.mr_lines.specs.declared.line.Line.TheVariants as line
use Rattle.mr_model.specs.declared.entry.FastRecord.{FastRecord}
use Rattle.mr_records.specs.Taking.{first_record}
use Rattle.mr_words.specs.Parts.{parts_of}
use Rattle.mr_words.specs.Numbers.{is_digit}

-- a digit in front of a text
pub digit_first : (b d : ℕ) (text rest : List ℕ) → is_digit b ≡ true → d ≡ b - 48 → text ≡ b ∷ rest → (d ≤ 9) × (text ≡ (48 + d) ∷ rest)
digit_first b d text rest digit value is =
    let both = and_parts _ _ digit in
    let low = leb-true 48 b both.0 in
    let high = leb-true b 57 both.1 in
    let same : b ≡ 48 + d = omega (arith, low, value) in
    (omega (arith, high, value), is ∙ ap (λ x. x ∷ rest) same)

-- a digit is a number
pub one_digit : (d : ℕ) (rest : List ℕ) → d ≤ 9 → (48 + d) ∷ rest ≡ decimal d ++ rest
one_digit d rest small = ap (λ ds. ds ++ rest) (sym (decimal_digit d (omega (arith, small))))

-- one more digit
pub digit_on : (value d : ℕ) (rest : List ℕ) → 0 < value → value < 100000000 → d ≤ 9 → decimal value ++ ((48 + d) ∷ rest) ≡ decimal (value * 10 + d) ++ rest
digit_on value d rest some short small =
    let n = value * 10 + d in
    let front : n / 10 ≡ value = omega (arith, small) in
    let last : 48 + n % 10 ≡ 48 + d = omega (arith, small) in
    let steps : decimal n ≡ decimal value ++ ((48 + d) ∷ []) = decimal_step n (omega arith) (omega (arith, small)) ∙ (λ i. decimal (front i) ++ (last i ∷ [])) in
    sym (ap (λ ds. ds ++ rest) steps ∙ append_assoc (decimal value) ((48 + d) ∷ []) rest)

-- a text in front of which the line of a record stands
pub record_first : (r : FastRecord) (text rest : List ℕ) → RecordFits r → text ≡ line_bytes (record_words r) ++ rest → first_record (parts_of 10 text) ≡ Some (r, parts_of 10 rest)
record_first r text rest fits is =
    let bytes = spaced (record_words r) in
    let cut : parts_of 10 text ≡ bytes ∷ parts_of 10 rest = ap (parts_of 10) (is ∙ append_assoc bytes (10 ∷ []) rest) ∙ line_first bytes rest (line_is_one (line.Record r) fits) in
    ap first_record cut ∙ ap (option_and_then (λ r. Some (r, parts_of 10 rest))) (ap (option_and_then as_record) (line_read (line.Record r) fits))
