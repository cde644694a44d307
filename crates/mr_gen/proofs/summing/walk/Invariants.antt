use Rattle.std.proofs.Common.{◌≡◌, ◌+◌, ◌*◌, ◌≤◌, ◌^◌, drop}
use Rattle.std.specs.List.{fold}
use Rattle.mr_gen.specs.Adding.{copies_in}
use Rattle.mr_gen.specs.Sums.{copies, fast, fast_in, slow, slow_in}
use Rattle.mr_gen.proofs.summing.walk.Given as goal

abbrev pub invariant-loop-place : goal.invariant-loop-place
invariant-loop-place l = record {
  fast : fold (λ n e. n + fast_in e) l.sums.fast (drop l.place l.journal.entries) ≡ fast l.journal.entries;
  slow : fold (λ n e. n + slow_in e) l.sums.slow (drop l.place l.journal.entries) ≡ slow l.journal.entries;
  copies : fold (λ n e. n + copies_in e) l.sums.copies (drop l.place l.journal.entries) ≡ copies l.journal.entries;
  most_fast : l.sums.fast ≤ l.place * 2 ^ 64;
  most_slow : l.sums.slow ≤ l.place;
  most_copies : l.sums.copies ≤ l.place * 2 ^ 69;
}
