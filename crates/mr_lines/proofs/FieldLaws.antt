-- Laws of fields: what is read is spelled so, what fits is read again, and its words have neither space nor line feed.
use Rattle.std.proofs.Common.{◌≡◌, true, List, [], ◌∷◌, ◌++◌, Option, Some, None, option_and_then, refl, sym, ap, ◌∙◌, append_assoc, subst}
use Rattle.std.proofs.lemmas.Bool.{and_from}
use Rattle.std.proofs.lemmas.Option.{some_pair_parts}
use Rattle.std.proofs.lemmas.List.Folds.{list_all-append}
use Rattle.std.specs.List.{list_all}
use Rattle.mr_lines.specs.Fields.{Read, one, leaving, both, further, joined_with, mapped, renamed, by_word, done}
use Rattle.mr_lines.specs.Forms.{Word}
use Rattle.mr_lines.specs.Laws.{is_free, are_free}

pub record IsWord {A : Type 0} (of : Word → Option A) (text : A → Word) (Fits : A → Type 0) : Type 0 where
  pub takes : (w : Word) (x : A) → of w ≡ Some x → (w ≡ text x) × Fits x
  pub again : (x : A) → Fits x → of (text x) ≡ Some x
  pub clean : (x : A) → Fits x → list_all is_free (text x) ≡ true

pub record IsField {A : Type 0} (f : Read A) (words : A → List Word) (Fits : A → Type 0) : Type 0 where
  pub takes : (ws : List Word) (x : A) (rest : List Word) → f ws ≡ Some (x, rest) → (ws ≡ words x ++ rest) × Fits x
  pub again : (x : A) (rest : List Word) → Fits x → f (words x ++ rest) ≡ Some (x, rest)
  pub clean : (x : A) → Fits x → are_free (words x) ≡ true

-- what a bind that gives something had
pub bound : {A B : Type 0} (f : A → Option B) (o : Option A) (y : B) → option_and_then f o ≡ Some y → (x : A) × (o ≡ Some x) × (f x ≡ Some y)
bound f None y e = absurd (cc)
bound f (Some x) y e = (x, refl, e)

-- words one behind another
pub free_append : (vs ws : List Word) → are_free vs ≡ true → are_free ws ≡ true → are_free (vs ++ ws) ≡ true
free_append vs ws p q = list_all-append _ vs ws ∙ and_from _ _ p q

one_takes : {A : Type 0} (of : Word → Option A) (text : A → Word) (Fits : A → Type 0) → IsWord of text Fits →
    (ws : List Word) (x : A) (rest : List Word) → one of ws ≡ Some (x, rest) → (ws ≡ text x ∷ rest) × Fits x
one_takes of text Fits word [] x rest e = absurd (cc)
one_takes of text Fits word (w ∷ ws) x rest e = by_case (of w) refl e
  where
    by_case : (o : Option _) → of w ≡ o → leaving ws o ≡ Some (x, rest) → (w ∷ ws ≡ text x ∷ rest) × Fits x
    by_case None reads e = absurd (cc)
    by_case (Some y) reads e =
        let same = some_pair_parts y x ws rest e in
        let known = word.takes w x (reads ∙ ap Some same.0) in
        ((λ i. known.0 i ∷ same.1 i), known.1)

pub one_field : {A : Type 0} (of : Word → Option A) (text : A → Word) (Fits : A → Type 0) → IsWord of text Fits → IsField (one of) (λ x. text x ∷ []) Fits
one_field of text Fits word = record {
  takes = one_takes of text Fits word;
  again = λ x rest fits. ap (leaving rest) (word.again x fits);
  clean = λ x fits. and_from _ _ (word.clean x fits) refl;
}

-- One direction alone, where a field does not have both for all that may stand behind it.
abbrev pub Takes : {A : Type 0} → Read A → (A → List Word) → (A → Type 0) → Type 0
Takes {A} f words Fits = (ws : List Word) (x : A) (rest : List Word) → f ws ≡ Some (x, rest) → (ws ≡ words x ++ rest) × Fits x

abbrev pub Again : {A : Type 0} → Read A → (A → List Word) → (A → Type 0) → List Word → Type 0
Again {A} f words Fits rest = (x : A) → Fits x → f (words x ++ rest) ≡ Some (x, rest)

pub both_takes : {A B : Type 0} (f : Read A) (fw : A → List Word) (F : A → Type 0) (g : Read B) (gw : B → List Word) (G : B → Type 0) →
    Takes f fw F → Takes g gw G → Takes (both f g) (λ p. fw p.0 ++ gw p.1) (λ p. F p.0 × G p.1)
both_takes f fw F g gw G left right ws p rest e =
    let first = bound (further g) (f ws) (p, rest) e in
    let second = bound (joined_with first.0.0) (g first.0.1) (p, rest) first.2 in
    let same = some_pair_parts (first.0.0, second.0.0) p second.0.1 rest second.2 in
    let l = left ws p.0 first.0.1 (first.1 ∙ ap (λ x. Some (x.0, first.0.1)) same.0) in
    let r = right first.0.1 p.1 rest (second.1 ∙ (λ i. Some ((same.0 i).1, same.1 i))) in
    (l.0 ∙ ap (λ t. fw p.0 ++ t) r.0 ∙ sym (append_assoc (fw p.0) (gw p.1) rest), (l.1, r.1))

pub both_again : {A B : Type 0} (f : Read A) (fw : A → List Word) (F : A → Type 0) (g : Read B) (gw : B → List Word) (G : B → Type 0) (rest : List Word) →
    ((more : List Word) → Again f fw F more) → Again g gw G rest → Again (both f g) (λ p. fw p.0 ++ gw p.1) (λ p. F p.0 × G p.1) rest
both_again f fw F g gw G rest left right p fits =
    ap (both f g) (append_assoc (fw p.0) (gw p.1) rest) ∙ ap (option_and_then (further g)) (left (gw p.1 ++ rest) p.0 fits.0)
    ∙ ap (option_and_then (joined_with p.0)) (right p.1 fits.1)

pub both_field : {A B : Type 0} (f : Read A) (fw : A → List Word) (F : A → Type 0) (g : Read B) (gw : B → List Word) (G : B → Type 0) →
    IsField f fw F → IsField g gw G → IsField (both f g) (λ p. fw p.0 ++ gw p.1) (λ p. F p.0 × G p.1)
both_field f fw F g gw G left right = record {
  takes = both_takes f fw F g gw G left.takes right.takes;
  again = λ p rest. both_again f fw F g gw G rest (λ more x. left.again x more) (λ x. right.again x rest) p;
  clean = λ p fits. free_append (fw p.0) (gw p.1) (left.clean p.0 fits.0) (right.clean p.1 fits.1);
}

pub mapped_takes : {A B : Type 0} (to : A → B) (from : B → A) (f : Read A) (fw : A → List Word) (F : A → Type 0) →
    ((x : A) → from (to x) ≡ x) → Takes f fw F → Takes (mapped to f) (λ y. fw (from y)) (λ y. F (from y))
mapped_takes to from f fw F back field ws y rest e =
    let first = bound (renamed to) (f ws) (y, rest) e in
    let same = some_pair_parts (to first.0.0) y first.0.1 rest first.2 in
    let is : first.0.0 ≡ from y = sym (back first.0.0) ∙ ap from same.0 in
    field ws (from y) rest (first.1 ∙ (λ i. Some (is i, same.1 i)))

pub mapped_again : {A B : Type 0} (to : A → B) (from : B → A) (f : Read A) (fw : A → List Word) (F : A → Type 0) (rest : List Word) →
    ((y : B) → to (from y) ≡ y) → Again f fw F rest → Again (mapped to f) (λ y. fw (from y)) (λ y. F (from y)) rest
mapped_again to from f fw F rest forth field y fits = ap (option_and_then (renamed to)) (field (from y) fits) ∙ ap (λ z. Some (z, rest)) (forth y)

pub mapped_field : {A B : Type 0} (to : A → B) (from : B → A) (f : Read A) (fw : A → List Word) (F : A → Type 0) →
    ((x : A) → from (to x) ≡ x) → ((y : B) → to (from y) ≡ y) → IsField f fw F → IsField (mapped to f) (λ y. fw (from y)) (λ y. F (from y))
mapped_field to from f fw F back forth field = record {
  takes = mapped_takes to from f fw F back field.takes;
  again = λ y rest. mapped_again to from f fw F rest forth (λ x. field.again x rest) y;
  clean = λ y fits. field.clean (from y) fits;
}

pub word_takes : {A : Type 0} (f : Word → Read A) (words : A → List Word) (Fits : A → Type 0) →
    ((w : Word) (ws : List Word) (x : A) (rest : List Word) → f w ws ≡ Some (x, rest) → (w ∷ ws ≡ words x ++ rest) × Fits x) → Takes (by_word f) words Fits
word_takes f words Fits at [] x rest e = absurd (cc)
word_takes f words Fits at (w ∷ ws) x rest e = at w ws x rest e

-- one variant of several: its keyword stands behind the words in front, and its fields behind the keyword
pub keyed : {A X : Type 0} (front : List Word) (k : Word) (to : A → X) (f : Read A) (fw : A → List Word) (F : A → Type 0) (xw : X → List Word) (Fits : X → Type 0) →
    ((a : A) → xw (to a) ≡ front ++ k ∷ fw a) → ((a : A) → F a → Fits (to a)) → Takes f fw F →
    (w : Word) (ws : List Word) (x : X) (rest : List Word) → w ≡ k → mapped to f ws ≡ Some (x, rest) → (front ++ w ∷ ws ≡ xw x ++ rest) × Fits x
keyed front k to f fw F xw Fits words fits field w ws x rest same e =
    let first = bound (renamed to) (f ws) (x, rest) e in
    let parts = some_pair_parts (to first.0.0) x first.0.1 rest first.2 in
    let taken = field ws first.0.0 rest (first.1 ∙ ap (λ r. Some (first.0.0, r)) parts.1) in (
      (λ i. front ++ same i ∷ taken.0 i) ∙ sym (append_assoc front (k ∷ fw first.0.0) rest) ∙ ap (λ v. v ++ rest) (sym (words first.0.0) ∙ ap xw parts.0),
      subst Fits parts.0 (fits first.0.0 taken.1),
    )

-- one variant of several that has no fields
pub alone : {X : Type 0} (front : List Word) (k : Word) (y : X) (xw : X → List Word) (Fits : X → Type 0) → xw y ≡ front ++ k ∷ [] → Fits y →
    (w : Word) (ws : List Word) (x : X) (rest : List Word) → w ≡ k → done y ws ≡ Some (x, rest) → (front ++ w ∷ ws ≡ xw x ++ rest) × Fits x
alone front k y xw Fits words fits w ws x rest same e =
    let parts = some_pair_parts y x ws rest e in
    ((λ i. front ++ same i ∷ parts.1 i) ∙ sym (append_assoc front (k ∷ []) rest) ∙ ap (λ v. v ++ rest) (sym words ∙ ap xw parts.0), subst Fits parts.0 fits)
