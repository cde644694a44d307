use Rattle.std.proofs.Common.{◌≡◌, ◌+◌, ◌*◌, ◌≤◌, drop}
use Rattle.std.specs.Prelude.{count_ones, sum_by}
use Rattle.std.specs.List.{fold}
use Rattle.mr_gen.proofs.summing.copies_settled.Given as goal

abbrev pub invariant-loop-place : goal.invariant-loop-place
invariant-loop-place l = record {
  sum : fold (λ n r. n + count_ones r.outs.0) l.sum (drop l.place l.records) ≡ sum_by (λ r. count_ones r.outs.0) l.records;
  most : l.sum ≤ 32 * l.place;
}
