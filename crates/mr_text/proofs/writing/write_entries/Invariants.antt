use Rattle.std.proofs.Common.{◌≡◌, ◌+◌, ◌++◌, drop}
use Rattle.std.specs.Prelude.{flat_map}
use Rattle.mr_text.specs.Text.{line_text, entries_lines}
use Rattle.mr_text.proofs.writing.write_entries.Given as goal

-- the text so far and the lines of the entries left come to the lines of all
abbrev pub invariant-loop-entry : goal.invariant-loop-entry
invariant-loop-entry l = record {
  number : l.number ≡ l.entry-index + 1;
  text : l.out.items ++ flat_map line_text (entries_lines l.number (drop l.entry-index l.entries)) ≡ l.initial.out.items ++ flat_map line_text (entries_lines 1 l.entries);
}
