-- Where the first blank stands, the first word ends.
use Rattle.std.proofs.Common.{◌≡◌, ℕ, zero, suc, ◌<◌, ◌≤◌, true, false}
use Rattle.std.proofs.Common.{List, [], ◌∷◌, length, take, drop, slice_index}
use Rattle.std.proofs.Common.{refl, ap, ◌∙◌, arith}
use Rattle.mr_words.specs.Words.{is_blank, front_word}
use Rattle.smc_words.specs.Words.{onto_words, words_after, command_words}

take_none : (i : ℕ) → take {A = ℕ} i [] ≡ []
take_none zero = refl
take_none (suc i) = refl

drop_none : (i : ℕ) → drop {A = ℕ} i [] ≡ []
drop_none zero = refl
drop_none (suc i) = refl

-- A word ends at the first blank, or at the end.
pub words_at : (bs : List ℕ) (i : ℕ) → i ≤ length bs →
    ((k : ℕ) → k < i → is_blank (slice_index bs k) ≡ false) →
    (i < length bs → is_blank (slice_index bs i) ≡ true) →
    (front_word bs ≡ take i bs) × (words_after bs ≡ command_words (drop i bs))
words_at [] i within clean stops = rw (drop_none i, take_none i) (refl, refl)
words_at (b ∷ bs) zero within clean stops = rw (stops (omega arith)) (refl, refl)
words_at (b ∷ bs) (suc i) within clean stops =
    let inner : (front_word bs ≡ take i bs) × (words_after bs ≡ command_words (drop i bs)) =
    words_at bs i (omega arith) (λ k h. clean (suc k) (omega arith)) (λ h. stops (omega arith)) in
    rw (clean 0 (omega arith)) (ap (λ w. b ∷ w) inner.0, inner.1)

-- the first word, and the words behind it
pub word_first : (bs : List ℕ) (i : ℕ) → (i ≡ 0 → ⊥) → i ≤ length bs →
    ((k : ℕ) → k < i → is_blank (slice_index bs k) ≡ false) →
    (i < length bs → is_blank (slice_index bs i) ≡ true) →
    command_words bs ≡ take i bs ∷ command_words (drop i bs)
word_first [] i some within clean stops = absurd (some (omega arith))
word_first (b ∷ bs) zero some within clean stops = absurd (some refl)
word_first (b ∷ bs) (suc i) some within clean stops =
    let parts :
    (front_word (b ∷ bs) ≡ take (suc i) (b ∷ bs))
    × (words_after (b ∷ bs) ≡ command_words (drop (suc i) (b ∷ bs))) =
    words_at (b ∷ bs) (suc i) within clean stops in
    ap (λ w. onto_words w (words_after (b ∷ bs))) parts.0 ∙ rw parts.1 refl
