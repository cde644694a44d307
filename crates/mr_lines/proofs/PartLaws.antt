-- Parts joined by their separator are the text again, and a text of parts without separators is cut into just these.
use Rattle.std.proofs.Common.{◌≡◌, ℕ, ◌==◌, Bool, true, false, not, List, [], ◌∷◌, ◌++◌, refl, sym, ap, ◌∙◌, arith, eqb-true, eq-eqb}
use Rattle.std.proofs.lemmas.Bool.{and_parts, and_from}
use Rattle.std.proofs.lemmas.List.Folds.{list_all-append}
use Rattle.std.specs.List.{list_all, join_with_byte}
use Rattle.mr_words.specs.Parts.{before, parts_behind, parts_of}
use Rattle.mr_lines.specs.Forms.{Word, spaced}
use Rattle.mr_lines.specs.Laws.{is_free, are_free, AreClean, is_one_line, SpacedAgain}

joined_onto : (sep b : ℕ) (p : Word) (ps : List Word) → join_with_byte sep ((b ∷ p) ∷ ps) ≡ b ∷ join_with_byte sep (p ∷ ps)
joined_onto sep b p [] = refl
joined_onto sep b p (q ∷ ps) = refl

pub joined_parts : (sep : ℕ) (bs : List ℕ) → join_with_byte sep (parts_of sep bs) ≡ bs
joined_parts sep [] = refl
joined_parts sep (b ∷ bs) = by_case (b == sep) refl (joined_parts sep bs)
  where
    by_case : (t : Bool) → (b == sep) ≡ t → join_with_byte sep (parts_of sep bs) ≡ bs → join_with_byte sep (parts_of sep (b ∷ bs)) ≡ b ∷ bs
    by_case true e inner = let same : sep ≡ b = sym (eqb-true b sep e) in rw e (λ i. same i ∷ inner i)
    by_case false e inner = rw e (joined_onto sep b (before sep bs) (parts_behind sep bs) ∙ ap (λ t. b ∷ t) inner)

pub spaced_again : SpacedAgain
spaced_again bytes = joined_parts 32 bytes

-- a word without a separator
abbrev pub lacks : ℕ → Word → Bool
lacks sep w = list_all (λ b. not (b == sep)) w

abbrev pub all_lack : ℕ → List Word → Bool
all_lack sep ws = list_all (λ w. lacks sep w) ws

not_same : (b : Bool) → not b ≡ true → b ≡ false
not_same true e = sym e
not_same false e = refl

-- the first part, and the parts behind its separator
pub part_front : (sep : ℕ) (w rest : List ℕ) → lacks sep w ≡ true →
    (before sep (w ++ sep ∷ rest) ≡ w) × (parts_behind sep (w ++ sep ∷ rest) ≡ parts_of sep rest)
part_front sep [] rest lack = let same : (sep == sep) ≡ true = eq-eqb sep sep refl in rw same (refl, refl)
part_front sep (b ∷ w) rest lack =
    let split = and_parts _ _ lack in
    let other : (b == sep) ≡ false = not_same (b == sep) split.0 in
    let inner = part_front sep w rest split.1 in
    rw other (ap (λ t. b ∷ t) inner.0, inner.1)

pub part_alone : (sep : ℕ) (w : List ℕ) → lacks sep w ≡ true → (before sep w ≡ w) × (parts_behind sep w ≡ [])
part_alone sep [] lack = (refl, refl)
part_alone sep (b ∷ w) lack =
    let split = and_parts _ _ lack in
    let other : (b == sep) ≡ false = not_same (b == sep) split.0 in
    let inner = part_alone sep w split.1 in
    rw other (ap (λ t. b ∷ t) inner.0, inner.1)

pub parts_joined : (sep : ℕ) (w : Word) (ws : List Word) → all_lack sep (w ∷ ws) ≡ true → parts_of sep (join_with_byte sep (w ∷ ws)) ≡ w ∷ ws
parts_joined sep w [] lack =
    let one = part_alone sep w (and_parts _ _ lack).0 in
    (λ i. one.0 i ∷ one.1 i)
parts_joined sep w (v ∷ ws) lack =
    let split = and_parts _ _ lack in
    let first = part_front sep w (join_with_byte sep (v ∷ ws)) split.0 in
    (λ i. first.0 i ∷ first.1 i) ∙ ap (λ t. w ∷ t) (parts_joined sep v ws split.1)

-- a free word lacks both
free_lacks : (w : Word) → list_all is_free w ≡ true → (lacks 32 w ≡ true) × (lacks 10 w ≡ true)
free_lacks [] free = (refl, refl)
free_lacks (b ∷ w) free =
    let split = and_parts _ _ free in
    let first = and_parts _ _ split.0 in
    let inner = free_lacks w split.1 in
    (and_from _ _ first.0 inner.0, and_from _ _ first.1 inner.1)

all_free_lack : (ws : List Word) → are_free ws ≡ true → all_lack 32 ws ≡ true
all_free_lack [] free = refl
all_free_lack (w ∷ ws) free = let split = and_parts _ _ free in and_from _ _ (free_lacks w split.0).0 (all_free_lack ws split.1)

pub clean_splits : (ws : List Word) → AreClean ws → parts_of 32 (spaced ws) ≡ ws
clean_splits [] clean = absurd (omega (arith, clean.0))
clean_splits (w ∷ ws) clean = parts_joined 32 w ws (all_free_lack (w ∷ ws) clean.1)

pub free_one_line : (ws : List Word) → are_free ws ≡ true → is_one_line (spaced ws) ≡ true
free_one_line [] free = refl
free_one_line (w ∷ []) free = (free_lacks w (and_parts _ _ free).0).1
free_one_line (w ∷ v ∷ ws) free =
    let split = and_parts _ _ free in
    list_all-append _ w (32 ∷ spaced (v ∷ ws)) ∙ and_from _ _ (free_lacks w split.0).1 (free_one_line (v ∷ ws) split.1)

-- A line that its line feed ends is the first part.
pub line_first : (line rest : List ℕ) → is_one_line line ≡ true → parts_of 10 (line ++ 10 ∷ rest) ≡ line ∷ parts_of 10 rest
line_first line rest one = let first = part_front 10 line rest one in (λ i. first.0 i ∷ first.1 i)

-- Free words joined by a free byte are free.
pub joined_free : (sep : ℕ) → is_free sep ≡ true → (ws : List Word) → are_free ws ≡ true → list_all is_free (join_with_byte sep ws) ≡ true
joined_free sep is [] free = refl
joined_free sep is (w ∷ []) free = (and_parts _ _ free).0
joined_free sep is (w ∷ v ∷ ws) free =
    let split = and_parts _ _ free in
    list_all-append is_free w (sep ∷ join_with_byte sep (v ∷ ws)) ∙ and_from _ _ split.0 (and_from _ _ is (joined_free sep is (v ∷ ws) split.1))
