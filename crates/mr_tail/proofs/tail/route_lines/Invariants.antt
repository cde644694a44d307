use Rattle.std.proofs.Common.{◌≡◌, ◌++◌, drop, map}
use Rattle.mr_tail.specs.Text.{route_line}
use Rattle.mr_tail.proofs.tail.route_lines.Given as goal

abbrev pub invariant-loop-route : goal.invariant-loop-route
invariant-loop-route l = l.lines.items ++ map route_line (drop l.route-index l.routes) ≡ map route_line l.routes
