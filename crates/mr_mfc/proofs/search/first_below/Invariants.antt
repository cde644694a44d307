use Rattle.std.proofs.Common.{◌≡◌, nat_lt, find, drop}
use Rattle.mr_mfc.proofs.search.first_below.Given as goal

abbrev pub invariant-loop-r : goal.invariant-loop-r
invariant-loop-r l = find (λ r. nat_lt r.number l.number) (drop l.r-index l.routes) ≡ find (λ r. nat_lt r.number l.number) l.routes
