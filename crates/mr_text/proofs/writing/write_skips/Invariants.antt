use Rattle.std.proofs.Common.{◌≡◌, ◌++◌, map, drop}
use Rattle.std.specs.Prelude.{flat_map}
use Rattle.mr_lines.specs.declared.line.Line.TheVariants as line
use Rattle.mr_text.specs.Text.{line_text}
use Rattle.mr_text.proofs.writing.write_skips.Given as goal

-- the text so far and the lines of the skips left come to the lines of all
abbrev pub invariant-loop-skip : goal.invariant-loop-skip
invariant-loop-skip l =
    l.out.items ++ flat_map line_text (map line.Skip (drop l.skip-index l.skips)) ≡ l.initial.out.items ++ flat_map line_text (map line.Skip l.skips)
