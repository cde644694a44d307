use Rattle.std.proofs.Common.{◌≡◌, ◌++◌, drop, map}
use Rattle.mr_tail.specs.Text.{vif_line}
use Rattle.mr_tail.proofs.tail.vif_lines.Given as goal

abbrev pub invariant-loop-vif : goal.invariant-loop-vif
invariant-loop-vif l = l.lines.items ++ map (vif_line l.devices) (drop l.vif-index l.vifs) ≡ map (vif_line l.devices) l.vifs
