use Rattle.std.proofs.Common.{◌≡◌, ◌≤◌, fold, length}
use Rattle.mr_lines.specs.Bytes.{digits_of, past_digits}
use Rattle.mr_words.specs.Numbers.{digit_on}
use Rattle.mr_lines.proofs.numbers.digits.Given as goal

abbrev pub invariant-digits : goal.invariant-digits
invariant-digits l = record {
  value : fold digit_on l.value (digits_of l.left) ≡ fold digit_on l.first (digits_of l.bytes);
  bound : l.value ≤ l.most;
  past : past_digits l.left ≡ past_digits l.bytes;
}

abbrev pub decreases-digits : goal.decreases-digits
decreases-digits l = length l.left
