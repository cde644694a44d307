-- Where the first separator stands, a text is cut.
use Rattle.std.proofs.Common.{◌≡◌, ◌≢◌, ℕ, zero, suc, ◌+◌, ◌<◌, ◌≤◌, ◌==◌, true, false, List, [], ◌∷◌, length, take, drop, slice_index, refl, ap, ◌∙◌, sym, arith, add-one, eq-eqb, ne_eqb, eq-or-lt_of_le, take_all, drop_of_length-le, subst, inl, inr}
use Rattle.mr_words.specs.Parts.{before, parts_behind, parts_of}
use Rattle.mr_words.specs.Words.{is_blank, lines_of, front_word, words_behind, with_word, words_of}

-- A line ends at the first line feed.
pub lines_at : (bs : List ℕ) (i : ℕ) → i < length bs → ((k : ℕ) → k < i → slice_index bs k ≢ 10) → slice_index bs i ≡ 10 →
    lines_of bs ≡ take i bs ∷ lines_of (drop (suc i) bs)
lines_at [] i within clean stops = absurd (omega arith)
lines_at (b ∷ bs) zero within clean stops = rw (eq-eqb b 10 stops) refl
lines_at (b ∷ bs) (suc i) within clean stops =
    let other : (b == 10) ≡ false = ne_eqb b 10 (clean 0 (omega arith)) in
    let inner : lines_of bs ≡ take i bs ∷ lines_of (drop (suc i) bs) = lines_at bs i (omega arith) (λ k h. clean (suc k) (omega arith)) stops in
    rw (other, inner) refl

-- Without a line feed all bytes are one line.
pub lines_whole : (bs : List ℕ) → 0 < length bs → ((k : ℕ) → k < length bs → slice_index bs k ≢ 10) → lines_of bs ≡ bs ∷ []
lines_whole [] some clean = absurd (omega arith)
lines_whole (b ∷ []) some clean = let other : (b == 10) ≡ false = ne_eqb b 10 (clean 0 (omega arith)) in rw other refl
lines_whole (b ∷ c ∷ bs) some clean =
    let other : (b == 10) ≡ false = ne_eqb b 10 (clean 0 (omega arith)) in
    let inner : lines_of (c ∷ bs) ≡ (c ∷ bs) ∷ [] = lines_whole (c ∷ bs) (omega arith) (λ k h. clean (suc k) (omega arith)) in
    rw (other, inner) refl

take_none : (i : ℕ) → take {A = ℕ} i [] ≡ []
take_none zero = refl
take_none (suc i) = refl

drop_none : (i : ℕ) → drop {A = ℕ} i [] ≡ []
drop_none zero = refl
drop_none (suc i) = refl

-- A word ends at the first blank, or at the end.
pub words_at : (bs : List ℕ) (i : ℕ) → i ≤ length bs → ((k : ℕ) → k < i → is_blank (slice_index bs k) ≡ false) →
    (i < length bs → is_blank (slice_index bs i) ≡ true) → (front_word bs ≡ take i bs) × (words_behind bs ≡ words_of (drop i bs))
words_at [] i within clean stops = rw (drop_none i, take_none i) (refl, refl)
words_at (b ∷ bs) zero within clean stops = rw (stops (omega arith)) (refl, refl)
words_at (b ∷ bs) (suc i) within clean stops =
    let inner : (front_word bs ≡ take i bs) × (words_behind bs ≡ words_of (drop i bs)) = words_at bs i (omega arith) (λ k h. clean (suc k) (omega arith)) (λ h. stops (omega arith)) in
    rw (clean 0 (omega arith)) (ap (λ w. b ∷ w) inner.0, inner.1)

-- both at once
pub split_at_end : (bs : List ℕ) (i : ℕ) → 0 < length bs → i ≤ length bs → ((k : ℕ) → k < i → slice_index bs k ≢ 10) →
    (i < length bs → slice_index bs i ≡ 10) → lines_of bs ≡ take i bs ∷ lines_of (drop (i + 1) bs)
split_at_end bs i some within clean stops =
    elim (eq-or-lt_of_le within) [
      | inl same ↦
          let all : length bs ≤ i = omega arith in
          let over : length bs ≤ i + 1 = omega arith in
          rw (take_all i bs all, drop_of_length-le bs over) (lines_whole bs some (λ k h. clean k (omega arith)))
      | inr below ↦ rw add-one (lines_at bs i below clean (stops below))
    ]

-- where no word stands: its end is 0
pub no_word : (bs : List ℕ) (i : ℕ) → i ≡ 0 → (0 < length bs → is_blank (slice_index bs 0) ≡ false) → (i < length bs → is_blank (slice_index bs i) ≡ true) → words_of bs ≡ []
no_word [] i none _ _ = refl
no_word (b ∷ bs) zero none kept stops = cc (kept (omega arith), stops (omega arith))
no_word (b ∷ bs) (suc i) none kept stops = absurd (omega arith)

-- a comment
pub commented : (bs : List ℕ) → 0 < length bs → slice_index bs 0 ≡ 35 → words_of bs ≡ []
commented [] some hash = absurd (omega arith)
commented (b ∷ bs) some hash = subst (λ x. words_of (x ∷ bs) ≡ []) (sym hash) refl

-- the first word, and the words behind it
pub word_first : (bs : List ℕ) (i : ℕ) → (i ≡ 0 → ⊥) → i ≤ length bs → ((k : ℕ) → k < i → is_blank (slice_index bs k) ≡ false) →
    (i < length bs → is_blank (slice_index bs i) ≡ true) → (slice_index bs 0 ≡ 35 → ⊥) → words_of bs ≡ take i bs ∷ words_of (drop i bs)
word_first [] i some within clean stops plain = absurd (some (omega arith))
word_first (b ∷ bs) zero some within clean stops plain = absurd (some refl)
word_first (b ∷ bs) (suc i) some within clean stops plain =
    let parts : (front_word (b ∷ bs) ≡ take (suc i) (b ∷ bs)) × (words_behind (b ∷ bs) ≡ words_of (drop (suc i) (b ∷ bs))) = words_at (b ∷ bs) (suc i) within clean stops in
    let other : (b == 35) ≡ false = ne_eqb b 35 plain in
    ap (λ w. with_word w (words_behind (b ∷ bs))) parts.0 ∙ rw (other, parts.1) refl

-- A part ends at the first separator.
pub parts_at : (sep : ℕ) (bs : List ℕ) (i : ℕ) → i < length bs → ((k : ℕ) → k < i → slice_index bs k ≢ sep) → slice_index bs i ≡ sep →
    (before sep bs ≡ take i bs) × (parts_behind sep bs ≡ parts_of sep (drop (suc i) bs))
parts_at sep [] i within clean stops = absurd (omega arith)
parts_at sep (b ∷ bs) zero within clean stops = rw (eq-eqb b sep stops) (refl, refl)
parts_at sep (b ∷ bs) (suc i) within clean stops =
    let other : (b == sep) ≡ false = ne_eqb b sep (clean 0 (omega arith)) in
    let inner : (before sep bs ≡ take i bs) × (parts_behind sep bs ≡ parts_of sep (drop (suc i) bs)) = parts_at sep bs i (omega arith) (λ k h. clean (suc k) (omega arith)) stops in
    rw other (ap (λ w. b ∷ w) inner.0, inner.1)

-- the first part, and the parts behind its separator
pub part_first : (sep : ℕ) (bs : List ℕ) (i : ℕ) → i < length bs → ((k : ℕ) → k < i → slice_index bs k ≢ sep) → (i < length bs → slice_index bs i ≡ sep) →
    parts_of sep bs ≡ take i bs ∷ parts_of sep (drop (i + 1) bs)
part_first sep bs i within clean stops =
    let parts : (before sep bs ≡ take i bs) × (parts_behind sep bs ≡ parts_of sep (drop (suc i) bs)) = parts_at sep bs i within clean (stops within) in
    rw (add-one, parts.0, parts.1) refl

-- Without a separator all bytes are one part.
pub part_whole : (sep : ℕ) (bs : List ℕ) → ((k : ℕ) → k < length bs → slice_index bs k ≢ sep) → (before sep bs ≡ bs) × (parts_behind sep bs ≡ [])
part_whole sep [] clean = (refl, refl)
part_whole sep (b ∷ bs) clean =
    let other : (b == sep) ≡ false = ne_eqb b sep (clean 0 (omega arith)) in
    let inner : (before sep bs ≡ bs) × (parts_behind sep bs ≡ []) = part_whole sep bs (λ k h. clean (suc k) (omega arith)) in
    rw other (ap (λ w. b ∷ w) inner.0, inner.1)

pub part_alone : (sep : ℕ) (bs : List ℕ) (i : ℕ) → length bs ≤ i → ((k : ℕ) → k < i → slice_index bs k ≢ sep) → parts_of sep bs ≡ bs ∷ []
part_alone sep bs i over clean =
    let parts : (before sep bs ≡ bs) × (parts_behind sep bs ≡ []) = part_whole sep bs (λ k h. clean k (omega arith)) in
    rw (parts.0, parts.1) refl
