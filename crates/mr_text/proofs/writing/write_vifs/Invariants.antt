use Rattle.std.proofs.Common.{◌≡◌, ◌++◌, map, drop}
use Rattle.std.specs.Prelude.{flat_map}
use Rattle.mr_lines.specs.declared.line.Line.TheVariants as line
use Rattle.mr_text.specs.Text.{line_text}
use Rattle.mr_text.proofs.writing.write_vifs.Given as goal

-- the text so far and the lines of the live vifs left come to the lines of all
abbrev pub invariant-loop-vif : goal.invariant-loop-vif
invariant-loop-vif l =
    l.out.items ++ flat_map line_text (map line.Vif (drop l.vif-index l.vifs)) ≡ l.initial.out.items ++ flat_map line_text (map line.Vif l.vifs)
