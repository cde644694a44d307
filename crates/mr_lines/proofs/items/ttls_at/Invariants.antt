use Rattle.std.proofs.Common.{◌≡◌, ◌-◌, ◌++◌, length, take}
use Rattle.mr_lines.specs.Bytes.{behind}
use Rattle.mr_lines.specs.Words.{ttls_from}
use Rattle.mr_lines.proofs.items.ttls_at.Given as goal

abbrev pub invariant-loop-i : goal.invariant-loop-i
invariant-loop-i l = record {
  long : length l.ttls ≡ 32;
  done : take l.i l.ttls ++ (ttls_from (32 - l.i) l.i (behind l.left)).0 ≡ (ttls_from 32 0 (behind l.rest)).0;
  others : (ttls_from (32 - l.i) l.i (behind l.left)).1 ≡ (ttls_from 32 0 (behind l.rest)).1;
}
