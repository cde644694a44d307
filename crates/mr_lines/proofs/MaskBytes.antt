-- A mask in the bytes of a line, vif by vif.
use Rattle.std.proofs.Common.{◌≡◌, ℕ, ◌+◌, ◌^◌, ◌<◌, ◌≤◌, ◌==◌, Bool, true, false, nat_le, List, [], ◌∷◌, Option, Some, None, length, refl, sym, ap, ◌∙◌, arith, inl, inr, ne_eqb, le-leb, leb-true, slice_index, ◌⊎◌, eq-eqb, eqb-true}
use Rattle.std.proofs.lemmas.Bool.{cases_Bool, or_parts, and_parts}
use Rattle.mr_words.specs.Numbers.{is_digit, number_of}
use Rattle.mr_words.specs.Parts.{before, parts_behind, parts_of}
use Rattle.mr_lines.specs.Bytes.{behind, ends, begins_comma, digits_of, past_digits}
use Rattle.mr_lines.specs.Fields.{leaving}
use Rattle.mr_lines.specs.Forms.{Word}
use Rattle.mr_lines.specs.Words.{with_vifs}
use Rattle.mr_lines.proofs.ByteLaws.{ends_at, behind_sep, word_ends, word_goes_on, no_digits}

-- the mask of the first word with what came before, and what is left
abbrev pub vifs_in : ℕ → ℕ → List ℕ → Option (ℕ × List Word)
vifs_in least mask bs = leaving (parts_behind 32 bs) (with_vifs least mask (parts_of 44 (before 32 bs)))

digits_apart : (b : ℕ) → is_digit b ≡ true → (b == 32) ≡ false
digits_apart b digit = ne_eqb b 32 (λ e. absurd (cc (digit, ap is_digit e)))

word_digits : (bs : List ℕ) → digits_of (before 32 bs) ≡ digits_of bs
word_digits [] = refl
word_digits (b ∷ bs) = by_case (is_digit b) refl (word_digits bs)
  where
    by_case : (t : Bool) → is_digit b ≡ t → digits_of (before 32 bs) ≡ digits_of bs → digits_of (before 32 (b ∷ bs)) ≡ digits_of (b ∷ bs)
    by_case true digit inner = rw (digits_apart b digit, digit) (ap (λ w. b ∷ w) inner)
    by_case false other inner = elim (cases_Bool (b == 32)) [
      | inl space ↦ rw (space, other) refl
      | inr word ↦ rw (word, other) refl
    ]

word_past : (bs : List ℕ) → past_digits (before 32 bs) ≡ before 32 (past_digits bs)
word_past [] = refl
word_past (b ∷ bs) = by_case (is_digit b) refl (word_past bs)
  where
    by_case : (t : Bool) → is_digit b ≡ t → past_digits (before 32 bs) ≡ before 32 (past_digits bs) → past_digits (before 32 (b ∷ bs)) ≡ before 32 (past_digits (b ∷ bs))
    by_case true digit inner = rw (digits_apart b digit, digit) inner
    by_case false other inner = elim (cases_Bool (b == 32)) [
      | inl space ↦ rw (space, other, space) refl
      | inr word ↦ rw (word, other, word) refl
    ]

words_past : (bs : List ℕ) → parts_behind 32 bs ≡ parts_behind 32 (past_digits bs)
words_past [] = refl
words_past (b ∷ bs) = by_case (is_digit b) refl (words_past bs)
  where
    by_case : (t : Bool) → is_digit b ≡ t → parts_behind 32 bs ≡ parts_behind 32 (past_digits bs) → parts_behind 32 (b ∷ bs) ≡ parts_behind 32 (past_digits (b ∷ bs))
    by_case true digit inner = rw (digits_apart b digit, digit) inner
    by_case false other inner = rw other refl

-- Where the first part is no number, there is no mask.
none_first : (least mask : ℕ) (w : Word) (ws : List Word) → number_of 31 w ≡ None → with_vifs least mask (w ∷ ws) ≡ None
unfolding with_vifs
none_first least mask w ws none = rw none refl

low_first : (least mask v : ℕ) (w : Word) (ws : List Word) → number_of 31 w ≡ Some v → v < least → with_vifs least mask (w ∷ ws) ≡ None
unfolding with_vifs
low_first least mask v w ws reads low =
    let test : nat_le least v ≡ false = elim (cases_Bool (nat_le least v)) [ inl under ↦ let over : least ≤ v = leb-true least v under in absurd (omega arith) | inr other ↦ other ] in
    rw (reads, test) refl

vif_first : (least mask v : ℕ) (w : Word) (ws : List Word) → number_of 31 w ≡ Some v → least ≤ v → with_vifs least mask (w ∷ ws) ≡ with_vifs (v + 1) (mask + 2 ^ v) ws
unfolding with_vifs
vif_first least mask v w ws reads high = rw (reads, le-leb least v high) refl

none_left : (least mask : ℕ) → with_vifs least mask [] ≡ Some mask
unfolding with_vifs
none_left least mask = refl

-- the first part of the first word is digits, or no number
first_part : (bs : List ℕ) → (before 44 (before 32 bs) ≡ digits_of bs) ⊎ (number_of 31 (before 44 (before 32 bs)) ≡ None)
first_part bs = elim (cases_Bool (ends_at 44 (past_digits (before 32 bs)))) [
  | inl end ↦ inl ((word_ends 44 refl (before 32 bs) end).0 ∙ word_digits bs)
  | inr on ↦ inr (no_digits 31 (before 44 (before 32 bs)) (word_goes_on 44 refl (before 32 bs) on))
]

-- no vif begins
pub vif_stuck : (least mask : ℕ) (bs : List ℕ) → number_of 31 (digits_of bs) ≡ None → vifs_in least mask bs ≡ None
vif_stuck least mask bs none = elim (first_part bs) [
  | inl same ↦ ap (leaving (parts_behind 32 bs)) (none_first least mask _ _ (ap (number_of 31) same ∙ none))
  | inr other ↦ ap (leaving (parts_behind 32 bs)) (none_first least mask _ _ other)
]

-- a vif that is too low
pub vif_low : (least mask v : ℕ) (bs : List ℕ) → number_of 31 (digits_of bs) ≡ Some v → v < least → vifs_in least mask bs ≡ None
vif_low least mask v bs reads low = elim (first_part bs) [
  | inl same ↦ ap (leaving (parts_behind 32 bs)) (low_first least mask v _ _ (ap (number_of 31) same ∙ reads) low)
  | inr other ↦ ap (leaving (parts_behind 32 bs)) (none_first least mask _ _ other)
]

-- a vif, and behind its comma others
pub vif_next : (least mask v : ℕ) (bs more : List ℕ) → number_of 31 (digits_of bs) ≡ Some v → least ≤ v → past_digits bs ≡ 44 ∷ more →
    vifs_in least mask bs ≡ vifs_in (v + 1) (mask + 2 ^ v) more
vif_next least mask v bs more reads high past =
    let word : past_digits (before 32 bs) ≡ 44 ∷ before 32 more = word_past bs ∙ ap (before 32) past in
    let end : ends_at 44 (past_digits (before 32 bs)) ≡ true = ap (ends_at 44) word ∙ comma_ends (before 32 more) in
    let parts = word_ends 44 refl (before 32 bs) end in
    let first : number_of 31 (before 44 (before 32 bs)) ≡ Some v = ap (number_of 31) (parts.0 ∙ word_digits bs) ∙ reads in
    let others : parts_behind 44 (before 32 bs) ≡ parts_of 44 (before 32 more) = parts.1 ∙ ap (behind_sep 44) word in
    let left : parts_behind 32 bs ≡ parts_behind 32 more = words_past bs ∙ ap (parts_behind 32) past in
    ap (leaving (parts_behind 32 bs)) (vif_first least mask v (before 44 (before 32 bs)) (parts_behind 44 (before 32 bs)) first high)
    ∙ (λ i. leaving (left i) (with_vifs (v + 1) (mask + 2 ^ v) (others i)))
  where
    comma_ends : (w : Word) → ends_at 44 (44 ∷ w) ≡ true
    comma_ends w = let some : (length (44 ∷ w) == 0) ≡ false = ne_eqb (length (44 ∷ w)) 0 (λ e. omega (arith, e)) in rw some refl

before_end : (left : List ℕ) → ends left ≡ true → before 32 left ≡ []
before_end [] end = refl
before_end (b ∷ bs) end = elim (cases_Bool (b == 32)) [
  | inl space ↦ rw space refl
  | inr word ↦
      let some : (length (b ∷ bs) == 0) ≡ false = ne_eqb (length (b ∷ bs)) 0 (λ e. omega (arith, e)) in
      let none : ends (b ∷ bs) ≡ false = rw (some, word) refl in
      absurd (cc (none, end))
]

same_behind : (bs : List ℕ) → behind_sep 32 bs ≡ behind bs
same_behind [] = refl
same_behind (b ∷ bs) = refl

-- the last vif
pub vif_last : (least mask v : ℕ) (bs left : List ℕ) → number_of 31 (digits_of bs) ≡ Some v → least ≤ v → left ≡ past_digits bs → ends left ≡ true →
    vifs_in least mask bs ≡ Some (mask + 2 ^ v, behind left)
vif_last least mask v bs left reads high is last =
    let here : ends (past_digits bs) ≡ true = ap ends (sym is) ∙ last in
    let word : past_digits (before 32 bs) ≡ [] = word_past bs ∙ before_end (past_digits bs) here in
    let parts = word_ends 44 refl (before 32 bs) (ap (ends_at 44) word) in
    let first : number_of 31 (before 44 (before 32 bs)) ≡ Some v = ap (number_of 31) (parts.0 ∙ word_digits bs) ∙ reads in
    let others : parts_behind 44 (before 32 bs) ≡ [] = parts.1 ∙ ap (behind_sep 44) word in
    let left_is : parts_behind 32 bs ≡ behind left = (word_ends 32 refl bs here).1 ∙ same_behind (past_digits bs) ∙ ap behind (sym is) in
    ap (leaving (parts_behind 32 bs)) (vif_first least mask v (before 44 (before 32 bs)) (parts_behind 44 (before 32 bs)) first high)
    ∙ (λ i. leaving (left_is i) (with_vifs (v + 1) (mask + 2 ^ v) (others i))) ∙ ap (leaving (behind left)) (none_left (v + 1) (mask + 2 ^ v))

-- another byte behind a vif
pub vif_broken : (least mask : ℕ) (bs left : List ℕ) → left ≡ past_digits bs → ends left ≡ false → (0 < length left → slice_index left 0 ≡ 44 → ⊥) → vifs_in least mask bs ≡ None
vif_broken least mask bs left is last other =
    let word : past_digits (before 32 bs) ≡ before 32 left = word_past bs ∙ ap (before 32) (sym is) in
    let on : ends_at 44 (past_digits (before 32 bs)) ≡ false = ap (ends_at 44) word ∙ goes_on left last other in
    ap (leaving (parts_behind 32 bs)) (none_first least mask _ _ (no_digits 31 (before 44 (before 32 bs)) (word_goes_on 44 refl (before 32 bs) on)))
  where
    goes_on : (left : List ℕ) → ends left ≡ false → (0 < length left → slice_index left 0 ≡ 44 → ⊥) → ends_at 44 (before 32 left) ≡ false
    goes_on [] last other = absurd (cc)
    goes_on (b ∷ bs) last other =
        let word : (b == 32) ≡ false = (or_parts (length (b ∷ bs) == 0) (b == 32) last).1 in
        let some : (length (b ∷ before 32 bs) == 0) ≡ false = ne_eqb (length (b ∷ before 32 bs)) 0 (λ e. omega (arith, e)) in
        let apart : (b == 44) ≡ false = ne_eqb b 44 (λ e. other (omega arith) e) in
        rw word (rw (some, apart) refl)

-- no comma stands here
pub no_comma : (left : List ℕ) → begins_comma left ≡ false → 0 < length left → slice_index left 0 ≡ 44 → ⊥
no_comma [] other some is = absurd (omega arith)
no_comma (b ∷ bs) other some is =
    let long : (length (b ∷ bs) == 0) ≡ false = ne_eqb (length (b ∷ bs)) 0 (λ e. omega (arith, e)) in
    let begins : begins_comma (b ∷ bs) ≡ true = rw (long, eq-eqb b 44 is) refl in
    cc (other, begins)

pub comma_first : (bs after more : List ℕ) → after ≡ past_digits bs → begins_comma after ≡ true → after ≡ slice_index after 0 ∷ more → past_digits bs ≡ 44 ∷ more
comma_first bs after more is begins cut =
    let byte : slice_index after 0 ≡ 44 = eqb-true (slice_index after 0) 44 (and_parts _ _ begins).1 in
    sym is ∙ cut ∙ ap (λ b. b ∷ more) byte

pub comma_some : (after : List ℕ) → begins_comma after ≡ true → 0 < length after
comma_some [] begins = absurd (cc)
comma_some (b ∷ bs) begins = omega arith

past_short : (bs : List ℕ) → length (past_digits bs) ≤ length bs
past_short [] = omega arith
past_short (b ∷ bs) = elim (cases_Bool (is_digit b)) [
  | inl digit ↦ rw digit (omega (arith, past_short bs))
  | inr other ↦ rw other (omega arith)
]

pub shorter : (b : ℕ) (bs after more : List ℕ) → after ≡ past_digits bs → after ≡ b ∷ more → length more < length bs
shorter b bs after more is cut =
    let long : length (past_digits bs) ≡ length (b ∷ more) = ap length (sym is ∙ cut) in
    omega (arith, past_short bs, long)
