-- The one text of a history: `history 1`, the skips, the entries, the tail, `end`.
use Rattle.std.specs.Prelude.{ℕ, ◌+◌, List, [], ◌∷◌, ◌++◌, map, flat_map, length}
use Rattle.mr_lines.specs.Forms.{spaced}
use Rattle.mr_lines.specs.Lines.{line_words}
use Rattle.mr_lines.specs.declared.line.Line.{Line}
use Rattle.mr_lines.specs.declared.line.Line.TheVariants as line
use Rattle.mr_lines.specs.declared.skip.Skip.{Skip}
use Rattle.mr_lines.specs.declared.tail.Tail.{Tail}
use Rattle.mr_model.specs.declared.entry.Entry.{Entry}
use Rattle.mr_model.specs.declared.entry.Entry.TheVariants as entry

-- words parted by one space, and a line feed
abbrev pub line_text : Line → List ℕ
line_text l = spaced (line_words l) ++ 10 ∷ []

-- the lines of entry n
abbrev pub entry_lines : ℕ → Entry → List Line
entry_lines n (entry.Call d r reply released) = line.Call n d r reply ∷ map line.Released released
entry_lines n (entry.Slow lane index look flow o) = line.Slow n lane index look o ∷ []
entry_lines n (entry.Settle lane records) = line.Settle n lane (length records) ∷ map line.Record records
entry_lines n (entry.Tick d ms) = line.Tick n d ms ∷ []
entry_lines n (entry.Recv d message) = line.Recv n d message ∷ []
entry_lines n entry.EndPhase = line.Phase n ∷ []

-- the lines of entries of which the first has number n
abbrev pub entries_lines : ℕ → List Entry → List Line
entries_lines n [] = []
entries_lines n (e ∷ h) = entry_lines n e ++ entries_lines (n + 1) h

-- the live entries, the live vifs and the fates
abbrev pub tail_lines : Tail → List Line
tail_lines t = map line.Route t.routes ++ map line.Vif t.vifs ++ map line.Fate t.fates

abbrev pub text_lines : List Skip → List Entry → Tail → List Line
text_lines skips h t = line.History ∷ (map line.Skip skips ++ entries_lines 1 h ++ tail_lines t ++ line.End ∷ [])

-- the text of given parts
abbrev pub text : List Skip → List Entry → Tail → List ℕ
text skips h t = flat_map line_text (text_lines skips h t)
