-- What is read is the text of its parts, each text is read, and a text with a line outside the grammar begins no text.
use Rattle.std.specs.Prelude.{◌≡◌, ℕ, ◌-◌, ◌<◌, Ok, Err, List, ◌++◌, length}
use Rattle.mr_lines.specs.declared.skip.Skip.{Skip}
use Rattle.mr_lines.specs.declared.tail.Tail.{Tail}
use Rattle.mr_model.specs.declared.entry.Entry.{Entry}
use Rattle.mr_text.specs.declared.history_text.HistoryText.{HistoryText}
use Rattle.mr_text.specs.Text.{text}
use Rattle.mr_text.specs.Walk.{walked}
use Rattle.mr_text.specs.Whole.{PartsFit, first_lines, first_bytes}
use Rattle.mr_words.specs.Parts.{parts_of}

-- What is read fits, its text is what was read, and its entries begin at the lines that it names.
abbrev pub ReadIsText : Type 0
ReadIsText = (bytes : List ℕ) (p : HistoryText) → walked bytes ≡ Ok p
    → PartsFit p.skips p.entries p.tail × (bytes ≡ text p.skips p.entries p.tail) × (p.lines ≡ first_lines p.skips p.entries)

-- The text of parts that fit is read, and gives these parts.
abbrev pub TextIsRead : Type 0
TextIsRead = (skips : List Skip) (h : List Entry) (t : Tail) → PartsFit skips h t
    → walked (text skips h t) ≡ Ok (record { skips = skips; entries = h; tail = t; lines = first_lines skips h })

-- Parts that fit and have the same text are the same.
abbrev pub OneText : Type 0
OneText = (skips : List Skip) (h : List Entry) (t : Tail) (skips' : List Skip) (h' : List Entry) (t' : Tail)
    → PartsFit skips h t → PartsFit skips' h' t' → text skips h t ≡ text skips' h' t' → (skips ≡ skips') × (h ≡ h') × (t ≡ t')

-- Where line n is the first that may not come, and a line feed ends it, no text of parts that fit begins with the first n lines.
-- Line numbers that stopped are left out.
abbrev pub NoneBegins : Type 0
NoneBegins = (bytes : List ℕ) (n : ℕ) → walked bytes ≡ Err n → n < length (parts_of 10 bytes) → n < 4294967295
    → (skips : List Skip) (h : List Entry) (t : Tail) (rest : List ℕ) → PartsFit skips h t → text skips h t ≡ first_bytes n bytes ++ rest → ⊥

-- Bytes begin with their first n lines, where a line feed ends each of these.
abbrev pub FirstLines : Type 0
FirstLines = (bytes : List ℕ) (n : ℕ) → n < length (parts_of 10 bytes) → (rest : List ℕ) × (bytes ≡ first_bytes n bytes ++ rest)

-- The lines before the first that may not come begin a text of parts that fit.
abbrev pub LinesBegin : Type 0
LinesBegin = (bytes : List ℕ) (n : ℕ) → walked bytes ≡ Err n → n < 4294967295
    → (skips : List Skip) × (h : List Entry) × (t : Tail) × (rest : List ℕ) × PartsFit skips h t × (text skips h t ≡ first_bytes (n - 1) bytes ++ rest)
