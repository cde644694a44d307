use Rattle.std.proofs.Common.{sym, ◌∙◌}
use Rattle.mr_history.specs.Totals.{met_of}
use Rattle.mr_history.proofs.Summing.{has_room, routes_step, routes_none, numbers_kept}
use Rattle.mr_history.proofs.counting.count_route.Goals as goal

pub returns-in-Some-clause-sums : goal.returns-in-Some-clause-sums
returns-in-Some-clause-sums c = λ ms few are.
    rw (c.set.ensures.items, c.route_with.ensures)
    (routes_step _ ms (met_of c.args.met.now) c.in-Some.totals
    (has_room ms _ few) c.facts.ensures.falling are (sym c.get.ensures ∙ c.in-Some.is))

pub returns-in-Some-clause-numbers : goal.returns-in-Some-clause-numbers
returns-in-Some-clause-numbers c = rw c.set.ensures.items (numbers_kept _ _ _)

pub returns-in_default-clause-sums : goal.returns-in_default-clause-sums
returns-in_default-clause-sums c = λ ms few are.
    routes_none _ ms (met_of c.args.met.now) are (sym c.get.ensures ∙ c.in_default.is)
