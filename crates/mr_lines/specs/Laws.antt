-- Laws of lines: the words that are read are the words that the line has, and each line that fits is read back.
use Rattle.std.specs.Prelude.{◌≡◌, ◌<◌, ◌==◌, ◌&&◌, ℕ, Bool, true, not, Some, List, length}
use Rattle.std.specs.List.{list_all}
use Rattle.mr_words.specs.Parts.{parts_of}
use Rattle.mr_lines.specs.declared.line.Line.{Line}
use Rattle.mr_lines.specs.Fit.{LineFits}
use Rattle.mr_lines.specs.Forms.{Word, spaced}
use Rattle.mr_lines.specs.Lines.{line_words}
use Rattle.mr_lines.specs.Reading.{line_of}

-- words that say a line are its words, and it fits
abbrev pub LineTakes : Type 0
LineTakes = (ws : List Word) (l : Line) → line_of ws ≡ Some l → (ws ≡ line_words l) × LineFits l

-- a line that fits is read from its words
abbrev pub LineAgain : Type 0
LineAgain = (l : Line) → LineFits l → line_of (line_words l) ≡ Some l

-- neither a space nor a line feed
abbrev pub is_free : ℕ → Bool
is_free b = not (b == 32) && not (b == 10)

-- no word has a space or a line feed
abbrev pub are_free : List Word → Bool
are_free ws = list_all (λ w. list_all is_free w) ws

-- There is a word, and none has a space or a line feed.
abbrev pub AreClean : List Word → Type 0
AreClean ws = (0 < length ws) × (are_free ws ≡ true)

abbrev pub LineClean : Type 0
LineClean = (l : Line) → LineFits l → AreClean (line_words l)

-- The words of a line, parted by one space, are cut into just these words.
abbrev pub LineSplits : Type 0
LineSplits = (l : Line) → LineFits l → parts_of 32 (spaced (line_words l)) ≡ line_words l

-- no byte of a text is a line feed
abbrev pub is_one_line : List ℕ → Bool
is_one_line bytes = list_all (λ b. not (b == 10)) bytes

abbrev pub LineIsOne : Type 0
LineIsOne = (l : Line) → LineFits l → is_one_line (spaced (line_words l)) ≡ true

-- The parts of bytes, parted by one space, are the bytes.
abbrev pub SpacedAgain : Type 0
SpacedAgain = (bytes : List ℕ) → spaced (parts_of 32 bytes) ≡ bytes
