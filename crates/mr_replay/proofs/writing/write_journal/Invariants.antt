use Rattle.std.proofs.Common.{◌≡◌, ◌++◌, take}
use Rattle.std.specs.Prelude.{flat_map}
use Rattle.mr_text.specs.Text.{line_text, entries_lines}
use Rattle.mr_replay.proofs.writing.write_journal.Given as goal

-- the lines of the entries so far are written
abbrev pub invariant-loop-place : goal.invariant-loop-place
invariant-loop-place l = l.out.items ≡ l.initial.out.items ++ flat_map line_text (entries_lines 1 (take l.place l.journal.entries))
