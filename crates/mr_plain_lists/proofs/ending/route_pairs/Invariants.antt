use Rattle.std.proofs.Common.{◌≡◌, ◌++◌, map, drop}
use Rattle.mr_plain_lists.specs.Endings.{route_pair}
use Rattle.mr_plain_lists.specs.Knowing.{met_of}
use Rattle.mr_plain_lists.proofs.ending.route_pairs.Given as goal

abbrev pub invariant-loop-route : goal.invariant-loop-route
invariant-loop-route l = l.lines.items ++ map (route_pair (map met_of l.mets)) (drop l.route-index l.routes) ≡ map (route_pair (map met_of l.mets)) l.routes
