-- A record's line is read by its fields alone.
use Rattle.std.proofs.Common.{◌≡◌, ℕ, true, false, List, [], ◌∷◌, ◌++◌, Option, Some, None, option_and_then, drop, codes, decimal, bytes_eq, refl, sym, ap, ◌∙◌, subst}
use Rattle.std.proofs.lemmas.Option.{some_pair_parts}
use Rattle.mr_lines.specs.declared.line.Line.{Line}
use Rattle.mr_lines.specs.declared.line.Line.TheVariants as line
use Rattle.mr_model.specs.declared.entry.FastRecord.{FastRecord}
use Rattle.mr_words.specs.Parts.{before, parts_of}
use Rattle.mr_lines.specs.Fields.{both, renamed, whole, nothing_left}
use Rattle.mr_lines.specs.Fit.{RecordFits}
use Rattle.mr_lines.specs.Forms.{Word}
use Rattle.mr_lines.specs.Lines.{line_words}
use Rattle.mr_lines.specs.Reading.{u32, vif_or_none, mask, record_of, record_behind, record_fields, as_record, line_of}
use Rattle.mr_lines.proofs.FieldLaws.{bound, Takes}
use Rattle.mr_lines.proofs.FormLaws.{forward_words, forward_field}
use Rattle.mr_lines.proofs.LineLaws.{pair_field, line_takes, line_again}

abbrev field_words : FastRecord → List Word
field_words r = decimal r.index ∷ decimal r.look ∷ forward_words (r.entry, (r.input, r.outs))

fields_take : Takes record_fields field_words RecordFits
fields_take ws r rest e =
    let first = bound record_behind (both u32 u32 ws) (r, rest) e in
    let p = first.0.0 in
    let numbers = pair_field.takes ws p first.0.1 first.1 in
    let second = bound (renamed (record_of p)) (both u32 (both vif_or_none mask) first.0.1) (r, rest) first.2 in
    let parts = some_pair_parts (record_of p second.0.0) r second.0.1 rest second.2 in
    let flow = forward_field.takes first.0.1 second.0.0 rest (second.1 ∙ ap (λ vs. Some (second.0.0, vs)) parts.1) in
    subst (λ x. (ws ≡ field_words x ++ rest) × RecordFits x) parts.0
    (numbers.0 ∙ ap (λ vs. decimal p.0 ∷ decimal p.1 ∷ vs) flow.0, (numbers.1.0, (numbers.1.1, (flow.1.0, (flow.1.1.0, (flow.1.1.1, refl))))))

fields_again : (r : FastRecord) → RecordFits r → record_fields (field_words r) ≡ Some (r, [])
fields_again r fits =
    ap (option_and_then record_behind) (pair_field.again (r.index, r.look) (forward_words (r.entry, (r.input, r.outs))) (fits.0, fits.1.0))
    ∙ ap (option_and_then (renamed (record_of (r.index, r.look)))) (forward_field.again (r.entry, (r.input, r.outs)) [] (fits.1.1.0, (fits.1.1.1.0, fits.1.1.1.1.0)))
    ∙ ap (λ f. Some (record r { flow = f }, [])) (sym fits.1.1.1.1.1)

-- What is a record's line has its words.
record_line : (ps : List Word) (r : FastRecord) → line_of ps ≡ Some (line.Record r) → (ps ≡ codes "-" ∷ field_words r) × RecordFits r
record_line ps r e = line_takes ps (line.Record r) e

-- a line that is no record's
none_record : (o : Option Line) → ((r : FastRecord) → o ≡ Some (line.Record r) → ⊥) → option_and_then as_record o ≡ None
none_record None never = refl
none_record (Some line.History) never = refl
none_record (Some (line.Skip s)) never = refl
none_record (Some (line.Call n d r reply)) never = refl
none_record (Some (line.Released r)) never = refl
none_record (Some (line.Slow n lane index look o)) never = refl
none_record (Some (line.Settle n lane count)) never = refl
none_record (Some (line.Record r)) never = absurd (never r refl)
none_record (Some (line.Tick n d ms)) never = refl
none_record (Some (line.Recv n d message)) never = refl
none_record (Some (line.Phase n)) never = refl
none_record (Some (line.Route r)) never = refl
none_record (Some (line.Vif v)) never = refl
none_record (Some (line.Fate f)) never = refl
none_record (Some line.End) never = refl

-- the first word
abbrev first_of : List Word → Word
first_of [] = []
first_of (w ∷ ws) = w

pub no_record : (bs : List ℕ) → bytes_eq (before 32 bs) (codes "-") ≡ false → option_and_then as_record (line_of (parts_of 32 bs)) ≡ None
no_record bs other = none_record (line_of (parts_of 32 bs)) (λ r e.
    let word : before 32 bs ≡ codes "-" = ap first_of (record_line (parts_of 32 bs) r e).0 in
    let same : bytes_eq (before 32 bs) (codes "-") ≡ true = ap (λ w. bytes_eq w (codes "-")) word in
    cc (other, same))

whole_is : (ws : List Word) (r : FastRecord) → whole record_fields ws ≡ Some r → record_fields ws ≡ Some (r, [])
whole_is ws r e = let first = bound nothing_left (record_fields ws) r e in first.1 ∙ only first.0 first.2
  where
    only : (x : FastRecord × List Word) → nothing_left x ≡ Some r → Some x ≡ Some (r, [])
    only (y, []) given = let same : y ≡ r = cc given in ap (λ z. Some (z, [])) same
    only (y, v ∷ vs) given = absurd (cc)

pub record_whole : (ws ps : List Word) → ps ≡ codes "-" ∷ ws → whole record_fields ws ≡ option_and_then as_record (line_of ps)
record_whole ws ps is = by_case (whole record_fields ws) refl
  where
    by_case : (o : Option FastRecord) → whole record_fields ws ≡ o → o ≡ option_and_then as_record (line_of ps)
    by_case None none = sym (none_record (line_of ps) (λ r e.
        let taken = record_line ps r e in
        let words : ws ≡ field_words r = ap (drop 1) (sym is ∙ taken.0) in
        let some : whole record_fields ws ≡ Some r = ap (whole record_fields) words ∙ ap (option_and_then nothing_left) (fields_again r taken.1) in
        cc (none, some)))
    by_case (Some r) some =
        let taken = fields_take ws r [] (whole_is ws r some) in
        let words : ps ≡ line_words (line.Record r) = is ∙ ap (λ vs. codes "-" ∷ vs) taken.0 in
        sym (ap (option_and_then as_record) (ap line_of words ∙ line_again (line.Record r) taken.1))
