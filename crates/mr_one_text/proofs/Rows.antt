-- The bytes of entries cut into rows, the words of each line: an entry's first row begins with its number, its further rows
-- begin with a dash, and what stands behind all entries begins with a letter.
use Rattle.std.proofs.Common.{◌≡◌, ℕ, ◌+◌, ◌<◌, ◌≤◌, true, List, [], ◌∷◌, ◌++◌, length, map, flat_map, codes, decimal, refl, ap, ◌∙◌, arith, lit<, append_assoc}
use Rattle.std.proofs.lemmas.Bool.{and_from}
use Rattle.std.proofs.lemmas.List.Concat.{flat_map-append}
use Rattle.std.specs.List.{AllByRecursion}
use Rattle.mr_lines.proofs.FieldLaws.{free_append}
use Rattle.mr_lines.proofs.PartLaws.{clean_splits, free_one_line, line_first}
use Rattle.mr_lines.specs.Forms.{Word, spaced}
use Rattle.mr_lines.specs.Laws.{are_free, AreClean}
use Rattle.mr_lines.specs.Lines.{request_words, reply_words, outcome_words, message_words, released_words, record_words}
use Rattle.mr_lines.specs.declared.line.Line.TheVariants as line
use Rattle.mr_lines.specs.declared.tail.RouteLine.{RouteLine}
use Rattle.mr_lines.specs.declared.tail.Tail.{Tail}
use Rattle.mr_lines.specs.declared.tail.VifLine.{VifLine}
use Rattle.mr_model.specs.declared.ending.FateLine.{FateLine}
use Rattle.mr_model.specs.declared.entry.Entry.{Entry}
use Rattle.mr_model.specs.declared.entry.Entry.TheVariants.{Call, Slow, Settle, Tick, Recv, EndPhase}
use Rattle.mr_model.specs.declared.entry.FastRecord.{FastRecord}
use Rattle.mr_model.specs.declared.entry.ReleasedId.{ReleasedId}
use Rattle.mr_one_text.proofs.Decimals.{first_byte, decimal_first}
use Rattle.mr_one_text.proofs.Frees.{frees, number_free, request_free, reply_free, outcome_free, message_free, released_free, record_free}
use Rattle.mr_one_text.proofs.Saying.{entries_text, end_text}
use Rattle.mr_text.specs.Text.{line_text, entry_lines, entries_lines}
use Rattle.mr_words.specs.Parts.{parts_of}

abbrev pub rows : List ℕ → List (List Word)
rows bytes = map (parts_of 32) (parts_of 10 bytes)

-- the first byte of a row, and of the first row
abbrev pub row_head : List Word → ℕ
row_head [] = 0
row_head (w ∷ ws) = first_byte w

abbrev pub head : List (List Word) → ℕ
head [] = 0
head (r ∷ rs) = row_head r

-- the words of an entry behind its number, and those of its further lines
abbrev pub said : Entry → List Word
said (Call d r reply released) = codes "call" ∷ decimal d.0 ∷ (request_words r ++ codes "=" ∷ reply_words reply)
said (Slow lane index look flow o) = codes "slow" ∷ decimal lane.0 ∷ decimal index ∷ decimal look ∷ outcome_words o
said (Settle lane records) = codes "settle" ∷ decimal lane.0 ∷ decimal (length records) ∷ []
said (Tick d ms) = codes "tick" ∷ decimal d.0 ∷ decimal ms ∷ []
said (Recv d message) = codes "recv" ∷ decimal d.0 ∷ message_words message
said EndPhase = codes "phase" ∷ []

abbrev pub dashed : Entry → List (List Word)
dashed (Call d r reply released) = map released_words released
dashed (Slow lane index look flow o) = []
dashed (Settle lane records) = map record_words records
dashed (Tick d ms) = []
dashed (Recv d message) = []
dashed EndPhase = []

-- words as a line are the first row
cut : (ws : List Word) (rest : List ℕ) → AreClean ws → rows ((spaced ws ++ 10 ∷ []) ++ rest) ≡ ws ∷ rows rest
cut ws rest clean =
    ap rows (append_assoc (spaced ws) (10 ∷ []) rest) ∙ ap (map (parts_of 32)) (line_first (spaced ws) rest (free_one_line ws clean.1))
    ∙ ap (λ (w : List Word). w ∷ rows rest) (clean_splits ws clean)

lead : (ws : List Word) (behind rest : List ℕ) (rs : List (List Word)) → AreClean ws → rows (behind ++ rest) ≡ rs → rows (((spaced ws ++ 10 ∷ []) ++ behind) ++ rest) ≡ ws ∷ rs
lead ws behind rest rs clean e =
    ap rows (append_assoc (spaced ws ++ 10 ∷ []) behind rest) ∙ cut ws (behind ++ rest) clean ∙ ap (λ (l : List (List Word)). ws ∷ l) e

released_rows : (ps : List ReleasedId) (rest : List ℕ) → rows (flat_map line_text (map line.Released ps) ++ rest) ≡ map released_words ps ++ rows rest
released_rows [] rest = refl
released_rows (p ∷ ps) rest = lead (released_words p) (flat_map line_text (map line.Released ps)) rest _ (omega arith, released_free p) (released_rows ps rest)

record_rows : (rs : List FastRecord) (rest : List ℕ) → rows (flat_map line_text (map line.Record rs) ++ rest) ≡ map record_words rs ++ rows rest
record_rows [] rest = refl
record_rows (r ∷ rs) rest = lead (record_words r) (flat_map line_text (map line.Record rs)) rest _ (omega arith, record_free r) (record_rows rs rest)

said_free : (e : Entry) → are_free (said e) ≡ true
said_free (Call d r reply released) =
    let both : are_free (request_words r ++ codes "=" ∷ reply_words reply) ≡ true = free_append (request_words r) (codes "=" ∷ reply_words reply) (request_free r) (reply_free reply) in
    and_from _ _ (number_free d.0) both
said_free (Slow lane index look flow o) = and_from _ _ (number_free lane.0) (and_from _ _ (number_free index) (and_from _ _ (number_free look) (outcome_free o)))
said_free (Settle lane records) = frees (said (Settle lane records)) (refl, (number_free lane.0, (number_free (length records), tt)))
said_free (Tick d ms) = frees (said (Tick d ms)) (refl, (number_free d.0, (number_free ms, tt)))
said_free (Recv d message) = and_from _ _ (number_free d.0) (message_free message)
said_free EndPhase = refl

first_clean : (n : ℕ) (e : Entry) → AreClean (decimal n ∷ said e)
first_clean n e = (omega arith, and_from _ _ (number_free n) (said_free e))

entry_rows : (n : ℕ) (e : Entry) (rest : List ℕ) → rows (flat_map line_text (entry_lines n e) ++ rest) ≡ (decimal n ∷ said e) ∷ (dashed e ++ rows rest)
entry_rows n (Call d r reply released) rest =
    lead (decimal n ∷ said (Call d r reply released)) (flat_map line_text (map line.Released released)) rest _ (first_clean n (Call d r reply released)) (released_rows released rest)
entry_rows n (Slow lane index look flow o) rest = lead (decimal n ∷ said (Slow lane index look flow o)) [] rest _ (first_clean n (Slow lane index look flow o)) refl
entry_rows n (Settle lane records) rest =
    lead (decimal n ∷ said (Settle lane records)) (flat_map line_text (map line.Record records)) rest _ (first_clean n (Settle lane records)) (record_rows records rest)
entry_rows n (Tick d ms) rest = lead (decimal n ∷ said (Tick d ms)) [] rest _ (first_clean n (Tick d ms)) refl
entry_rows n (Recv d message) rest = lead (decimal n ∷ said (Recv d message)) [] rest _ (first_clean n (Recv d message)) refl
entry_rows n EndPhase rest = lead (decimal n ∷ said EndPhase) [] rest _ (first_clean n EndPhase) refl

-- an entry before others, and before other bytes
pub next_rows : (n : ℕ) (e : Entry) (h : List Entry) (x : List ℕ) → rows (entries_text n (e ∷ h) ++ x) ≡ (decimal n ∷ said e) ∷ (dashed e ++ rows (entries_text (n + 1) h ++ x))
next_rows n e h x =
    ap (λ (b : List ℕ). rows (b ++ x)) (flat_map-append line_text (entry_lines n e) (entries_lines (n + 1) h))
    ∙ ap rows (append_assoc (flat_map line_text (entry_lines n e)) (entries_text (n + 1) h) x)
    ∙ entry_rows n e (entries_text (n + 1) h ++ x)

-- a row that begins with a dash
abbrev pub IsDashed : List Word → Type 0
IsDashed r = row_head r ≡ 45

released_dashed : (ps : List ReleasedId) → AllByRecursion IsDashed (map released_words ps)
released_dashed [] = tt
released_dashed (p ∷ ps) = (refl, released_dashed ps)

record_dashed : (rs : List FastRecord) → AllByRecursion IsDashed (map record_words rs)
record_dashed [] = tt
record_dashed (r ∷ rs) = (refl, record_dashed rs)

pub are_dashed : (e : Entry) → AllByRecursion IsDashed (dashed e)
are_dashed (Call d r reply released) = released_dashed released
are_dashed (Slow lane index look flow o) = tt
are_dashed (Settle lane records) = record_dashed records
are_dashed (Tick d ms) = tt
are_dashed (Recv d message) = tt
are_dashed EndPhase = tt

-- behind the entries stands a letter
end_by : (rs : List RouteLine) (vs : List VifLine) (fs : List FateLine) → 57 < head (rows (flat_map line_text ((map line.Route rs ++ map line.Vif vs ++ map line.Fate fs) ++ line.End ∷ [])))
end_by (r ∷ rs) vs fs = lit< tt
end_by [] (v ∷ vs) fs = lit< tt
end_by [] [] (f ∷ fs) = lit< tt
end_by [] [] [] = lit< tt

pub end_head : (t : Tail) → 57 < head (rows (end_text t))
end_head t = end_by t.routes t.vifs t.fates

pub entry_head : (n : ℕ) (e : Entry) (h : List Entry) (x : List ℕ) → (48 ≤ head (rows (entries_text n (e ∷ h) ++ x))) × (head (rows (entries_text n (e ∷ h) ++ x)) ≤ 57)
entry_head n e h x =
    let is : head (rows (entries_text n (e ∷ h) ++ x)) ≡ first_byte (decimal n) = ap head (next_rows n e h x) in
    let within = decimal_first n in
    (omega (arith, is, within.0), omega (arith, is, within.1))

pub no_dash : (n : ℕ) (h : List Entry) (x : List ℕ) → 57 < head (rows x) → head (rows (entries_text n h ++ x)) ≡ 45 → ⊥
no_dash n [] x end e = omega (arith, end, e)
no_dash n (f ∷ h) x end e = let within = entry_head n f h x in omega (arith, within.0, e)
