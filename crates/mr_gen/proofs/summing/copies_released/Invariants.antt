use Rattle.std.proofs.Common.{◌≡◌, ◌+◌, ◌*◌, ◌≤◌, drop}
use Rattle.std.specs.Prelude.{count_ones, sum_by}
use Rattle.std.specs.List.{fold}
use Rattle.mr_gen.specs.Adding.{outs_in}
use Rattle.mr_gen.proofs.summing.copies_released.Given as goal

abbrev pub invariant-loop-one : goal.invariant-loop-one
invariant-loop-one l = record {
  sum : fold (λ n r. n + count_ones (outs_in r.outcome).0) l.sum (drop l.one-index l.released) ≡ sum_by (λ r. count_ones (outs_in r.outcome).0) l.released;
  most : l.sum ≤ 32 * l.one-index;
}
