-- Words and numbers in the bytes of a line.
use Rattle.std.proofs.Common.{◌≡◌, ◌≢◌, ℕ, suc, ◌+◌, ◌<◌, ◌≤◌, ◌==◌, ◌&&◌, ◌||◌, Bool, true, false, nat_le, List, [], ◌∷◌, Option, Some, None, length, get_or, drop, take, slice_index, fold, refl, sym, ap, ◌∙◌, arith, inl, inr, add-one, eq-or-lt_of_le, ne_eqb, leb-true, le-leb, drop-cons, drop_of_length-le, take_all, lt-ltb, codes, bytes_eq}
use Rattle.std.proofs.lemmas.Bool.{and_from, cases_Bool, or_cases, or_parts}
use Rattle.std.specs.List.{list_all}
use Rattle.std.specs.Prelude.{if◌then◌else◌, nat_lt}
use Rattle.mr_words.proofs.Cuts.{part_first, part_alone}
use Rattle.mr_words.proofs.Digits.{grows}
use Rattle.mr_words.specs.Numbers.{is_digit, leads_well, is_numeral, digit_on, number_of}
use Rattle.mr_words.specs.Parts.{before, parts_behind, parts_of}
use Rattle.mr_lines.specs.Bytes.{behind, ends, digits_of, past_digits, begins_number}
use Rattle.std.proofs.lemmas.Option.{some_pair_parts}
use Rattle.mr_lines.specs.Fields.{one, leaving, by_word}
use Rattle.mr_lines.specs.Reading.{u64, entry_at, entry_of, numbered}
use Rattle.mr_lines.specs.Words.{number64}
use Rattle.mr_lines.specs.Forms.{Word}

-- the first word, and what is left
pub word_first : (bs : List ℕ) (i : ℕ) → i ≤ length bs → ((k : ℕ) → k < i → slice_index bs k ≢ 32) → (i < length bs → slice_index bs i ≡ 32) →
    parts_of 32 bs ≡ take i bs ∷ behind (drop i bs)
word_first bs i within clean stops = elim (eq-or-lt_of_le within) [
  | inl same ↦
      let over : length bs ≤ i = omega arith in
      rw (drop_of_length-le bs over, take_all i bs over) (part_alone 32 bs i over clean)
  | inr below ↦
      let cut : drop i bs ≡ get_or bs i 0 ∷ drop (suc i) bs = drop-cons bs i 0 below in
      let next : i + 1 ≡ suc i = add-one i in
      rw cut (part_first 32 bs i below clean stops ∙ ap (λ n. take i bs ∷ parts_of 32 (drop n bs)) next)
]

digits_all : (bs : List ℕ) → list_all is_digit (digits_of bs) ≡ true
digits_all [] = refl
digits_all (b ∷ bs) = by_case (is_digit b) refl (digits_all bs)
  where
    by_case : (t : Bool) → is_digit b ≡ t → list_all is_digit (digits_of bs) ≡ true → list_all is_digit (digits_of (b ∷ bs)) ≡ true
    by_case true digit inner = rw digit (and_from _ _ digit inner)
    by_case false other inner = rw other refl

-- The test on the first two bytes is the test on the digits.
begins_leads : (bs : List ℕ) → begins_number bs ≡ leads_well (digits_of bs)
begins_leads [] = refl
begins_leads (b ∷ []) = elim (cases_Bool (is_digit b)) [
  | inl digit ↦ elim (cases_Bool (b == 48)) [
    | inl nil ↦ rw (digit, nil) refl
    | inr some ↦ rw (digit, some) refl
  ]
  | inr other ↦ rw other refl
]
begins_leads (b ∷ c ∷ bs) = elim (cases_Bool (is_digit b)) [
  | inr other ↦ let some_bytes : (length (b ∷ c ∷ bs) == 0) ≡ false = ne_eqb (length (b ∷ c ∷ bs)) 0 (λ e. omega (arith, e)) in rw (other, some_bytes) refl
  | inl digit ↦ elim (cases_Bool (is_digit c)) [
    | inr alone ↦
        let some_bytes : (length (b ∷ c ∷ bs) == 0) ≡ false = ne_eqb (length (b ∷ c ∷ bs)) 0 (λ e. omega (arith, e)) in
        let whole : (length (b ∷ c ∷ bs) == 1) ≡ false = ne_eqb (length (b ∷ c ∷ bs)) 1 (λ e. omega (arith, e)) in
        elim (cases_Bool (b == 48)) [
          | inl nil ↦ rw (digit, alone, nil, some_bytes, whole) refl
          | inr some ↦ rw (digit, alone, some, some_bytes) refl
        ]
    | inl more ↦
        let some_bytes : (length (b ∷ c ∷ bs) == 0) ≡ false = ne_eqb (length (b ∷ c ∷ bs)) 0 (λ e. omega (arith, e)) in
        let long : (length (b ∷ c ∷ digits_of bs) == 1) ≡ false = ne_eqb (length (b ∷ c ∷ digits_of bs)) 1 (λ e. omega (arith, e)) in
        let whole : (length (b ∷ c ∷ bs) == 1) ≡ false = ne_eqb (length (b ∷ c ∷ bs)) 1 (λ e. omega (arith, e)) in
        let two : nat_lt 1 (length (b ∷ c ∷ digits_of bs)) ≡ true = lt-ltb 1 (length (b ∷ c ∷ digits_of bs)) (omega arith) in
        elim (cases_Bool (b == 48)) [
          | inl nil ↦ rw (digit, more, nil, long, whole, two, some_bytes) refl
          | inr some ↦ rw (digit, more, some, long, two, some_bytes) refl
        ]
  ]
]

-- no number begins
pub no_number : (most : ℕ) (bs : List ℕ) → begins_number bs ≡ false → number_of most (digits_of bs) ≡ None
no_number most bs none = rw (sym (begins_leads bs) ∙ none) refl

-- the digits spell too much
pub too_much : (most : ℕ) (bs : List ℕ) → most < fold digit_on 0 (digits_of bs) → number_of most (digits_of bs) ≡ None
too_much most bs over = by_case (is_numeral (digits_of bs))
  where
    test : nat_le (fold digit_on 0 (digits_of bs)) most ≡ false
    test = elim (cases_Bool (nat_le (fold digit_on 0 (digits_of bs)) most)) [
      | inl under ↦ let low : fold digit_on 0 (digits_of bs) ≤ most = leb-true (fold digit_on 0 (digits_of bs)) most under in absurd (omega arith)
      | inr other ↦ other
    ]

    by_case : (t : Bool) → (if t && nat_le (fold digit_on 0 (digits_of bs)) most then Some (fold digit_on 0 (digits_of bs)) else None) ≡ None
    by_case true = rw test refl
    by_case false = refl

pub is_number : (most n : ℕ) (bs : List ℕ) → begins_number bs ≡ true → fold digit_on 0 (digits_of bs) ≡ n → n ≤ most → number_of most (digits_of bs) ≡ Some n
is_number most n bs begins is within = rw (sym (begins_leads bs) ∙ begins, digits_all bs, is, le-leb n most within) refl

-- One more digit makes the number greater than it may be, whatever digits come behind.
pub grown_above : (most value total : ℕ) (left : List ℕ) → 1 ≤ length left → is_digit (get_or left 0 0) ≡ true → (digit_on value (get_or left 0 0) ≤ most → ⊥) →
    fold digit_on value (digits_of left) ≡ total → most < total
grown_above most value total [] some digit over reads = absurd (omega arith)
grown_above most value total (b ∷ after) some digit over reads =
    let cut : digits_of (b ∷ after) ≡ b ∷ digits_of after = rw digit refl in
    let more : fold digit_on (digit_on value b) (digits_of after) ≡ total = sym (ap (fold digit_on value) cut) ∙ reads in
    omega (arith, grows (digits_of after) (digit_on value b), more, over)

-- A number has a byte.
pub begins_some : (bs : List ℕ) → begins_number bs ≡ true → 0 < length bs
begins_some [] begins = absurd (cc)
begins_some (b ∷ bs) begins = omega arith

-- Its first byte is a digit.
pub begins_digit : (bs : List ℕ) → begins_number bs ≡ true → is_digit (slice_index bs 0) ≡ true
begins_digit [] begins = absurd (cc)
begins_digit (b ∷ bs) begins = elim (cases_Bool (is_digit b)) [
  | inl digit ↦ digit
  | inr other ↦ absurd (cc (begins, not_begun b bs other))
]
  where
    not_begun : (b : ℕ) (bs : List ℕ) → is_digit b ≡ false → begins_number (b ∷ bs) ≡ false
    not_begun b bs other = begins_leads (b ∷ bs) ∙ rw other refl

-- The digits of a number are the first, and those behind it.
pub first_digit : (bs after : List ℕ) (first : ℕ) → begins_number bs ≡ true → bs ≡ slice_index bs 0 ∷ after → first ≡ digit_on 0 (slice_index bs 0) →
    (fold digit_on first (digits_of after) ≡ fold digit_on 0 (digits_of bs)) × (past_digits after ≡ past_digits bs)
first_digit bs after first begins cut is =
    let digit = begins_digit bs begins in
    let opened : digits_of (slice_index bs 0 ∷ after) ≡ slice_index bs 0 ∷ digits_of after = rw digit refl in
    let passed : past_digits (slice_index bs 0 ∷ after) ≡ past_digits after = rw digit refl in (
      ap (λ n. fold digit_on n (digits_of after)) is ∙ sym (ap (fold digit_on 0) (ap digits_of cut ∙ opened)),
      sym (ap past_digits cut ∙ passed),
    )

-- the first digit is too much
pub first_over : (most : ℕ) (bs : List ℕ) → begins_number bs ≡ true → (digit_on 0 (slice_index bs 0) ≤ most → ⊥) → number_of most (digits_of bs) ≡ None
first_over most bs begins over = too_much most bs (grown_above most 0 (fold digit_on 0 (digits_of bs)) bs (omega (arith, begins_some bs begins)) (begins_digit bs begins) over refl)

-- the digits behind the first are those of a number
pub rest_is : (most first n : ℕ) (bs after left : List ℕ) → begins_number bs ≡ true → bs ≡ slice_index bs 0 ∷ after → first ≡ digit_on 0 (slice_index bs 0) →
    (fold digit_on first (digits_of after) ≡ n) × (n ≤ most) × (left ≡ past_digits after) → (number_of most (digits_of bs) ≡ Some n) × (left ≡ past_digits bs)
rest_is most first n bs after left begins cut is reads =
    let known = first_digit bs after first begins cut is in
    (is_number most n bs begins (sym known.0 ∙ reads.0) reads.1, reads.2 ∙ known.1)

-- the words behind a separator
abbrev pub behind_sep : ℕ → List ℕ → List Word
behind_sep sep [] = []
behind_sep sep (b ∷ bs) = parts_of sep bs

-- no word goes on here
abbrev pub ends_at : ℕ → List ℕ → Bool
ends_at sep bs = length bs == 0 || slice_index bs 0 == sep

some_length : (b : ℕ) (bs : List ℕ) → (length (b ∷ bs) == 0) ≡ false
some_length b bs = ne_eqb (length (b ∷ bs)) 0 (λ e. omega (arith, e))

-- Where the word ends behind its digits, it is its digits.
pub word_ends : (sep : ℕ) → is_digit sep ≡ false → (bs : List ℕ) → ends_at sep (past_digits bs) ≡ true →
    (before sep bs ≡ digits_of bs) × (parts_behind sep bs ≡ behind_sep sep (past_digits bs))
word_ends sep other [] end = (refl, refl)
word_ends sep other (b ∷ bs) end = by_case (is_digit b) refl end (word_ends sep other bs)
  where
    by_case : (t : Bool) → is_digit b ≡ t → ends_at sep (past_digits (b ∷ bs)) ≡ true →
        (ends_at sep (past_digits bs) ≡ true → (before sep bs ≡ digits_of bs) × (parts_behind sep bs ≡ behind_sep sep (past_digits bs))) →
        (before sep (b ∷ bs) ≡ digits_of (b ∷ bs)) × (parts_behind sep (b ∷ bs) ≡ behind_sep sep (past_digits (b ∷ bs)))
    by_case true digit end inner =
        let apart : (b == sep) ≡ false = ne_eqb b sep (λ e. cc (digit, other, ap is_digit e)) in
        let later : ends_at sep (past_digits bs) ≡ true = rw digit at end in
        let is = inner later in
        rw (digit, apart) (ap (λ w. b ∷ w) is.0, is.1)
    by_case false no_digit end inner =
        let here : ends_at sep (b ∷ bs) ≡ true = rw no_digit at end in
        let same : (b == sep) ≡ true = elim (or_cases (length (b ∷ bs) == 0) (b == sep) here) [ inl empty ↦ absurd (cc (empty, some_length b bs)) | inr is ↦ is ] in
        rw (no_digit, same) (refl, refl)

-- Where a word goes on behind its digits, it is no number.
pub word_goes_on : (sep : ℕ) → is_digit sep ≡ false → (bs : List ℕ) → ends_at sep (past_digits bs) ≡ false → list_all is_digit (before sep bs) ≡ false
word_goes_on sep other [] end = absurd (cc)
word_goes_on sep other (b ∷ bs) end = by_case (is_digit b) refl end (word_goes_on sep other bs)
  where
    by_case : (t : Bool) → is_digit b ≡ t → ends_at sep (past_digits (b ∷ bs)) ≡ false →
        (ends_at sep (past_digits bs) ≡ false → list_all is_digit (before sep bs) ≡ false) → list_all is_digit (before sep (b ∷ bs)) ≡ false
    by_case true digit end inner =
        let later : ends_at sep (past_digits bs) ≡ false = rw digit at end in
        let apart : (b == sep) ≡ false = ne_eqb b sep (λ e. cc (digit, other, ap is_digit e)) in
        rw (apart, digit) (inner later)
    by_case false no_digit end inner =
        let here : ends_at sep (b ∷ bs) ≡ false = rw no_digit at end in
        let apart : (b == sep) ≡ false = (or_parts (length (b ∷ bs) == 0) (b == sep) here).1 in
        rw (apart, no_digit) refl

-- A word with a byte that is no digit is no number.
pub no_digits : (most : ℕ) (w : Word) → list_all is_digit w ≡ false → number_of most w ≡ None
no_digits most w other = by_case (leads_well w)
  where
    by_case : (t : Bool) → (if (t && list_all is_digit w) && nat_le (fold digit_on 0 w) most then Some (fold digit_on 0 w) else None) ≡ None
    by_case true = rw other refl
    by_case false = refl

-- A number that ends is the next word; where its digits are none, or it doesn't end, none is.
pub number_ends : (most : ℕ) (bs : List ℕ) → ends (past_digits bs) ≡ true → one (number_of most) (parts_of 32 bs) ≡ leaving (behind (past_digits bs)) (number_of most (digits_of bs))
number_ends most bs end =
    let is = word_ends 32 refl bs end in
    (λ i. leaving (is.1 i) (number_of most (is.0 i))) ∙ ap (λ ws. leaving ws (number_of most (digits_of bs))) (same (past_digits bs))
  where
    same : (bs : List ℕ) → behind_sep 32 bs ≡ behind bs
    same [] = refl
    same (b ∷ bs) = refl

pub number_goes_on : (most : ℕ) (bs : List ℕ) → ends (past_digits bs) ≡ false → one (number_of most) (parts_of 32 bs) ≡ None
number_goes_on most bs end = ap (leaving (parts_behind 32 bs)) (no_digits most (before 32 bs) (word_goes_on 32 refl bs end))

pub number_none : (most : ℕ) (bs : List ℕ) → number_of most (digits_of bs) ≡ None → one (number_of most) (parts_of 32 bs) ≡ None
number_none most bs none = elim (cases_Bool (ends (past_digits bs))) [
  | inl end ↦ number_ends most bs end ∙ ap (leaving (behind (past_digits bs))) none
  | inr on ↦ number_goes_on most bs on
]

pub number_read : (most n : ℕ) (bs left : List ℕ) → number_of most (digits_of bs) ≡ Some n → left ≡ past_digits bs → ends left ≡ true →
    one (number_of most) (parts_of 32 bs) ≡ Some (n, behind left)
number_read most n bs left reads is end = number_ends most bs (ap ends (sym is) ∙ end) ∙ (λ i. leaving (behind (sym is i)) (reads i))

pub number_stuck : (most : ℕ) (bs left : List ℕ) → left ≡ past_digits bs → ends left ≡ false → one (number_of most) (parts_of 32 bs) ≡ None
number_stuck most bs left is end = number_goes_on most bs (ap ends (sym is) ∙ end)

-- the word `-`
pub dash_ends : (left : List ℕ) → ends left ≡ true → parts_of 32 (45 ∷ left) ≡ codes "-" ∷ behind left
dash_ends [] end = refl
dash_ends (b ∷ bs) end =
    let same : (b == 32) ≡ true = elim (or_cases (length (b ∷ bs) == 0) (b == 32) end) [ inl empty ↦ absurd (cc (empty, some_length b bs)) | inr is ↦ is ] in
    rw same refl

pub dash_goes_on : (left : List ℕ) → ends left ≡ false → bytes_eq (before 32 (45 ∷ left)) (codes "-") ≡ false
dash_goes_on [] end = absurd (cc)
dash_goes_on (b ∷ bs) end =
    let apart : (b == 32) ≡ false = (or_parts (length (b ∷ bs) == 0) (b == 32) end).1 in
    rw apart refl

pub no_dash : (b : ℕ) (bs : List ℕ) → (b ≡ 45 → ⊥) → bytes_eq (before 32 (b ∷ bs)) (codes "-") ≡ false
no_dash b bs other = elim (cases_Bool (b == 32)) [
  | inl space ↦ rw space refl
  | inr word ↦ let apart : (b == 45) ≡ false = ne_eqb b 45 other in rw (word, apart) refl
]

-- what a word that is read left
pub left_is : {A : Type 0} (ws vs : List Word) (o : Option A) (x : A) → leaving ws o ≡ Some (x, vs) → (o ≡ Some x) × (ws ≡ vs)
left_is ws vs None x e = absurd (cc)
left_is ws vs (Some y) x e = let parts = some_pair_parts y x ws vs e in (ap Some parts.0, parts.1)

-- an entry's number, and the word behind it
pub number_leads : (bs : List ℕ) (n : ℕ) (v : Word) (ws vs : List Word) → u64 (parts_of 32 bs) ≡ Some (n, ws) → ws ≡ v ∷ vs →
    numbered (before 32 bs) (parts_behind 32 bs) ≡ entry_at n v vs
number_leads bs n v ws vs reads is =
    let known = left_is (parts_behind 32 bs) ws (number64 (before 32 bs)) n reads in
    (λ i. entry_of (known.0 i) (known.1 i)) ∙ ap (by_word (entry_at n)) is
