use Rattle.std.proofs.Common.{◌≡◌, ◌≤◌, ◌+◌, ◌++◌, drop, length}
use Rattle.std.specs.Prelude.{option_map}
use Rattle.mr_scenario.proofs.Pairs.{pairs_of}
use Rattle.mr_scenario.proofs.hex.hex_word.Given as goal

-- what is read so far and the digits left come to what all digits spell
abbrev pub invariant-loop-pair : goal.invariant-loop-pair
invariant-loop-pair l = record {
  same : option_map (λ bs. l.bytes.items ++ bs) (pairs_of (drop l.pair-index l.pairs)) ≡ pairs_of l.pairs;
  room : length l.pairs + l.bytes.len ≤ l.bytes.cap + l.pair-index;
}
