use Rattle.std.proofs.Common.{◌≡◌, ◌++◌, map, drop}
use Rattle.std.specs.Prelude.{flat_map}
use Rattle.mr_lines.specs.declared.line.Line.TheVariants as line
use Rattle.mr_text.specs.Text.{line_text}
use Rattle.mr_text.proofs.writing.write_routes.Given as goal

-- the text so far and the lines of the live entries left come to the lines of all
abbrev pub invariant-loop-route : goal.invariant-loop-route
invariant-loop-route l =
    l.out.items ++ flat_map line_text (map line.Route (drop l.route-index l.routes)) ≡ l.initial.out.items ++ flat_map line_text (map line.Route l.routes)
