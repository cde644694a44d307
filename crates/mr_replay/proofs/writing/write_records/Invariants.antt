use Rattle.std.proofs.Common.{◌≡◌, ◌++◌, map, take}
use Rattle.std.specs.Prelude.{flat_map}
use Rattle.mr_lines.specs.declared.line.Line.TheVariants as line
use Rattle.mr_text.specs.Text.{line_text}
use Rattle.mr_replay.proofs.writing.write_records.Given as goal

-- the lines of the records so far are written
abbrev pub invariant-loop-place : goal.invariant-loop-place
invariant-loop-place l = l.out.items ≡ l.initial.out.items ++ flat_map line_text (map line.Record (take l.place l.records))
