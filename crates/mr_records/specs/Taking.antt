-- The record in front of a text.
use Rattle.std.specs.Prelude.{◌≡◌, ℕ, Option, Some, None, option_and_then, List, [], ◌∷◌, ◌++◌}
use Rattle.mr_lines.specs.Reading.{as_record, line_of}
use Rattle.mr_model.specs.declared.entry.FastRecord.{FastRecord}
use Rattle.mr_words.specs.Parts.{parts_of}

-- the record that a line without its line feed is
abbrev pub record_of_line : List ℕ → Option FastRecord
record_of_line bytes = option_and_then as_record (line_of (parts_of 32 bytes))

-- The record that the first of a text's pieces is, and the pieces behind its line feed. The last piece has no line feed.
abbrev pub first_record : List (List ℕ) → Option (FastRecord × List (List ℕ))
first_record [] = None
first_record (p ∷ []) = None
first_record (p ∷ q ∷ ps) = option_and_then (λ r. Some (r, q ∷ ps)) (record_of_line p)

-- What a function read of a text, and what is left of the text, are what the text's pieces say.
abbrev pub Takes : {R : Type 0} → (R → List ℕ) → Option (FastRecord × R) → Option (FastRecord × List (List ℕ)) → Type 0
Takes bytes None read = read ≡ None
Takes bytes (Some x) read = read ≡ Some (x.0, parts_of 10 (bytes x.1))

-- What was put behind a list of records, and what is left of a text, are what the text's pieces say.
abbrev pub TakesOnto : {R : Type 0} → (R → List ℕ) → List FastRecord → List FastRecord → Option R → Option (FastRecord × List (List ℕ)) → Type 0
TakesOnto bytes old new None read = (read ≡ None) × (new ≡ old)
TakesOnto bytes old new (Some rest) read = (r : FastRecord) × (read ≡ Some (r, parts_of 10 (bytes rest))) × (new ≡ old ++ r ∷ [])
