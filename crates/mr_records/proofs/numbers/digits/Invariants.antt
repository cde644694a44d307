use Rattle.std.proofs.Common.{◌≡◌, ◌<◌, ◌≤◌, ◌++◌, decimal, length}
use Rattle.mr_records.proofs.numbers.digits.Given as goal

-- what was read and what is left are the whole
abbrev pub invariant-digits : goal.invariant-digits
invariant-digits l = record {
  text : decimal l.first ++ l.text ≡ decimal l.value ++ l.left;
  some : 0 < l.value;
  short : l.value ≤ 999999999;
}

abbrev pub decreases-digits : goal.decreases-digits
decreases-digits l = length l.left
