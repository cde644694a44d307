use Rattle.std.proofs.Common.{◌≡◌, ◌++◌, map, drop}
use Rattle.std.specs.Prelude.{flat_map}
use Rattle.mr_lines.specs.declared.line.Line.TheVariants as line
use Rattle.mr_text.specs.Text.{line_text}
use Rattle.mr_text.proofs.writing.write_records.Given as goal

-- the text so far and the lines of the records left come to the lines of all
abbrev pub invariant-loop-packet : goal.invariant-loop-packet
invariant-loop-packet l =
    l.out.items ++ flat_map line_text (map line.Record (drop l.packet-index l.packets)) ≡ l.initial.out.items ++ flat_map line_text (map line.Record l.packets)
