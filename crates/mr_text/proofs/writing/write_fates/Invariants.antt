use Rattle.std.proofs.Common.{◌≡◌, ◌++◌, map, drop}
use Rattle.std.specs.Prelude.{flat_map}
use Rattle.mr_lines.specs.declared.line.Line.TheVariants as line
use Rattle.mr_text.specs.Text.{line_text}
use Rattle.mr_text.proofs.writing.write_fates.Given as goal

-- the text so far and the lines of the fates left come to the lines of all
abbrev pub invariant-loop-fate : goal.invariant-loop-fate
invariant-loop-fate l =
    l.out.items ++ flat_map line_text (map line.Fate (drop l.fate-index l.fates)) ≡ l.initial.out.items ++ flat_map line_text (map line.Fate l.fates)
