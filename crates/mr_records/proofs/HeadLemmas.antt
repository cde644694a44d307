-- The bytes of a head in front of a text.
use Rattle.std.proofs.Common.{◌≡◌, ℕ, ◌+◌, ◌*◌, ◌/◌, ◌%◌, ◌<◌, ◌≤◌, List, [], ◌∷◌, ◌++◌, length, take, decimal, sym, ap, ◌∙◌, arith, length-append, lit<}
use Rattle.std.proofs.Math.Seq.{take-append_seam}
use Rattle.std.proofs.lemmas.Fmt.{decimal_digit}
use Rattle.mr_records.proofs.TakingLemmas.{digit_on}
use Rattle.mr_records.specs.Ways.{index_bytes, look_bytes}

-- how many bytes a part has in front of others
pub front_length : (text part behind : List ℕ) → text ≡ part ++ behind → length text ≡ length part + length behind
front_length text part behind is = ap length is ∙ length-append part behind

-- a text without what is behind its first part
pub front_part : (text part behind : List ℕ) (count : ℕ) → text ≡ part ++ behind → count + length behind ≡ length text → take count text ≡ part
front_part text part behind count is long =
    let same : count ≡ length part = omega (arith, long, front_length text part behind is) in
    (λ i. take (same i) (is i)) ∙ take-append_seam part behind

-- two more digits
pub index_on : (hundreds tens ones : ℕ) (text more less rest : List ℕ) → 0 < hundreds → hundreds < 10000000 → tens ≤ 9 → ones ≤ 9
    → text ≡ index_bytes hundreds ++ more → more ≡ (48 + tens) ∷ less → less ≡ (48 + ones) ∷ rest → text ≡ index_bytes ((hundreds * 10 + tens) * 10 + ones) ++ rest
index_on hundreds tens ones text more less rest some short ten one is first second =
    is ∙ ap (λ x. 45 ∷ 32 ∷ x) (ap (λ x. decimal hundreds ++ x) first ∙ digit_on hundreds tens less some (omega arith) ten
    ∙ ap (λ x. decimal (hundreds * 10 + tens) ++ x) second ∙ digit_on (hundreds * 10 + tens) ones rest (omega arith) (omega (arith, ten)) one)

-- an index of two digits or more is its tens and a last digit
index_tens : (index : ℕ) (text behind : List ℕ) → 10 ≤ index → index < 1000000000 → text ≡ index_bytes index ++ behind → text ≡ index_bytes (index / 10) ++ ((48 + index % 10) ∷ behind)
index_tens index text behind large short is =
    let parts : index ≡ index / 10 * 10 + index % 10 = omega arith in
    is ∙ ap (λ n. index_bytes n ++ behind) parts ∙ ap (λ x. 45 ∷ 32 ∷ x) (sym (digit_on (index / 10) (index % 10) behind (omega arith) (omega arith) (omega arith)))

-- the hundreds of an index in front of a text
pub hundreds_front : (index : ℕ) (text behind : List ℕ) (count : ℕ) → 100 ≤ index → index < 1000000000 → text ≡ index_bytes index ++ behind → count + 2 + length behind ≡ length text
    → take count text ≡ index_bytes (index / 100)
hundreds_front index text behind count large short is long =
    let tens = index / 10 in
    let last = (48 + index % 10) ∷ behind in
    let same : tens / 10 ≡ index / 100 = omega arith in
    front_part text (index_bytes (tens / 10)) ((48 + tens % 10) ∷ last) count (index_tens tens text last (omega arith) (omega arith) (index_tens index text behind (omega arith) short is)) (omega (arith, long))
    ∙ ap index_bytes same

-- the hundreds of 100, and look 0
pub first_hundreds : 45 ∷ 32 ∷ 49 ∷ [] ≡ index_bytes 1
first_hundreds = ap (λ d. 45 ∷ 32 ∷ d) (sym (decimal_digit 1 (lit< tt)))

pub first_look : 32 ∷ 48 ∷ [] ≡ look_bytes 0
first_look = ap (λ d. 32 ∷ d) (sym (decimal_digit 0 (lit< tt)))
