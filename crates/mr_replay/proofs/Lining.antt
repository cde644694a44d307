-- The lines of one entry, or of one record, more.
use Rattle.std.proofs.Common.{◌≡◌, ◌∙◌, ℕ, zero, suc, ◌+◌, Some, List, [], ◌∷◌, ◌++◌, length, map, take, refl, sym, ap, arith, append_assoc, append-nil}
use Rattle.std.proofs.lemmas.Grind.{flat_map-append}
use Rattle.std.proofs.lemmas.List.{map-append}
use Rattle.std.specs.Prelude.{flat_map, slice_get}
use Rattle.mr_lines.specs.declared.line.Line.TheVariants as line
use Rattle.mr_model.specs.declared.entry.Entry.{Entry}
use Rattle.mr_model.specs.declared.entry.FastRecord.{FastRecord}
use Rattle.mr_text.specs.Text.{line_text, entry_lines, entries_lines}

got_suc : {X : Type 0} (xs : List X) (i : ℕ) (x : X) → slice_get xs i ≡ Some x → take (suc i) xs ≡ take i xs ++ x ∷ []
got_suc [] i x at = absurd (cc)
got_suc (y ∷ xs) zero x at =
    let same : y ≡ x = cc in
    rw same refl
got_suc {X} (y ∷ xs) (suc i) x at = ap (λ (zs : List X). y ∷ zs) (got_suc xs i x at)

pub take_got : {X : Type 0} (xs : List X) (i : ℕ) (x : X) → slice_get xs i ≡ Some x → take (i + 1) xs ≡ take i xs ++ x ∷ []
take_got xs i x at =
    let next : i + 1 ≡ suc i = omega arith in
    ap (λ (n : ℕ). take n xs) next ∙ got_suc xs i x at

lines_push : (n : ℕ) (h : List Entry) (e : Entry) → entries_lines n (h ++ e ∷ []) ≡ entries_lines n h ++ entry_lines (n + length h) e
lines_push n [] e =
    let number : n + 0 ≡ n = omega arith in
    rw number (append-nil (entry_lines n e))
lines_push n (x ∷ h) e =
    let number : n + 1 + length h ≡ n + length (x ∷ h) = omega arith in
    rw (lines_push (n + 1) h e, number) (sym (append_assoc (entry_lines n x) (entries_lines (n + 1) h) (entry_lines (n + length (x ∷ h)) e)))

length_got : {X : Type 0} (xs : List X) (i : ℕ) (x : X) → slice_get xs i ≡ Some x → length (take i xs) ≡ i
length_got [] i x at = absurd (cc)
length_got (y ∷ xs) zero x at = refl
length_got (y ∷ xs) (suc i) x at = omega (arith, length_got xs i x at)

-- one entry more is written
pub entry_written : (start old new : List ℕ) (h : List Entry) (i : ℕ) (e : Entry) → slice_get h i ≡ Some e
    → old ≡ start ++ flat_map line_text (entries_lines 1 (take i h)) → new ≡ old ++ flat_map line_text (entry_lines (i + 1) e)
    → new ≡ start ++ flat_map line_text (entries_lines 1 (take (i + 1) h))
entry_written start old new h i e at before more =
    let number : 1 + length (take i h) ≡ i + 1 = omega (arith, length_got h i e at) in
    let lines : entries_lines 1 (take (i + 1) h) ≡ entries_lines 1 (take i h) ++ entry_lines (i + 1) e =
    ap (entries_lines 1) (take_got h i e at) ∙ lines_push 1 (take i h) e ∙ ap (λ (n : ℕ). entries_lines 1 (take i h) ++ entry_lines n e) number in
    more ∙ rw (before, lines, flat_map-append line_text (entries_lines 1 (take i h)) (entry_lines (i + 1) e))
    (append_assoc start (flat_map line_text (entries_lines 1 (take i h))) (flat_map line_text (entry_lines (i + 1) e)))

-- one record more is written
pub record_written : (start old new : List ℕ) (rs : List FastRecord) (i : ℕ) (r : FastRecord) → slice_get rs i ≡ Some r
    → old ≡ start ++ flat_map line_text (map line.Record (take i rs)) → new ≡ old ++ line_text (line.Record r)
    → new ≡ start ++ flat_map line_text (map line.Record (take (i + 1) rs))
record_written start old new rs i r at before more =
    let text : List ℕ = line_text (line.Record r) in
    let front : List ℕ = flat_map line_text (map line.Record (take i rs)) in
    let lines : map line.Record (take (i + 1) rs) ≡ map line.Record (take i rs) ++ line.Record r ∷ [] = ap (map line.Record) (take_got rs i r at) ∙ map-append line.Record (take i rs) (r ∷ []) in
    let all : flat_map line_text (map line.Record (take (i + 1) rs)) ≡ front ++ text =
    ap (flat_map line_text) lines ∙ flat_map-append line_text (map line.Record (take i rs)) (line.Record r ∷ []) ∙ ap (λ (xs : List ℕ). front ++ xs) (append-nil text) in
    more ∙ ap (λ (xs : List ℕ). xs ++ text) before ∙ append_assoc start front text ∙ ap (λ (xs : List ℕ). start ++ xs) (sym all)
