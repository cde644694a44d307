use Rattle.std.proofs.Common.{◌≡◌, ◌+◌, ◌*◌, ◌≤◌, ◌^◌, drop}
use Rattle.std.specs.Prelude.{sum_by}
use Rattle.std.specs.List.{fold}
use Rattle.mr_gen.proofs.summing.bytes_of.Given as goal

abbrev pub invariant-loop-totals : goal.invariant-loop-totals
invariant-loop-totals l = record {
  sum : fold (λ n r. n + r.1.bytes) l.sum (drop l.totals-index l.routes) ≡ sum_by (λ r. r.1.bytes) l.routes;
  most : l.sum ≤ l.totals-index * 2 ^ 64;
}
