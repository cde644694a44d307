use Rattle.std.proofs.Common.{◌≡◌, ◌++◌, true, drop, map}
use Rattle.std.specs.List.{AllByRecursion}
use Rattle.mr_history.specs.Journals.{has_number}
use Rattle.mr_kernel.specs.Endings.{route_pair}
use Rattle.mr_kernel.proofs.closing.route_pairs.Given as goal

abbrev pub invariant-loop-route : goal.invariant-loop-route
invariant-loop-route l =
    (l.pairs.items ++ map (route_pair l.journal.entries) (drop l.route-index l.routes)
    ≡ map (route_pair l.fn.journal.entries) l.fn.routes)
    × AllByRecursion (λ r. has_number l.journal.routes r.number ≡ true)
    (drop l.route-index l.routes)
