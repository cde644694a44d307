use Rattle.std.proofs.Common.{◌≡◌, ◌++◌, length}
use Rattle.std.specs.Prelude.{flat_map}
use Rattle.smc_core.specs.Showing.{route_line}
use Rattle.smc_core.proofs.showing.write_routes.Given as goal

abbrev pub invariant-rules : goal.invariant-rules
invariant-rules l =
    l.out.items ++ flat_map route_line l.rest
    ≡ l.initial.out.items ++ flat_map route_line l.rules.entries

abbrev pub decreases-rules : goal.decreases-rules
decreases-rules l = length l.rest
