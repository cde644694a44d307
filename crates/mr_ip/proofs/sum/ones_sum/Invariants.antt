use Rattle.std.proofs.Common.{◌≡◌, ◌+◌, ◌*◌, ◌≤◌, ◌%◌, length}
use Rattle.mr_base.specs.Heads.{ones_sum}
use Rattle.mr_ip.specs.Sums.{carried}
use Rattle.mr_ip.proofs.Sums.{AreBytes}
use Rattle.mr_ip.proofs.sum.ones_sum.Given as goal

abbrev pub invariant-loop-rest : goal.invariant-loop-rest
invariant-loop-rest l = record {
  whole : length l.rest % 4 ≡ 0;
  fits : l.sum + 4294967296 * length l.rest ≤ 4294967296 * 60;
  small : AreBytes l.rest;
  same : ones_sum (carried l.sum) l.rest ≡ ones_sum 0 l.bytes;
}

abbrev pub decreases-loop-rest : goal.decreases-loop-rest
decreases-loop-rest l = length l.rest
