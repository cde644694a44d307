use Rattle.std.proofs.Common.{◌≡◌, ◌++◌, drop}
use Rattle.mr_lines.specs.Forms.{thresholds}
use Rattle.mr_print.specs.Written.{led}
use Rattle.mr_print.proofs.words.write_thresholds.Given as goal

-- the text so far and that of the thresholds left come to that of all thresholds
abbrev pub invariant-loop-ttl : goal.invariant-loop-ttl
invariant-loop-ttl l = record {
  number : l.vif ≡ l.ttl-index;
  text : l.out.items ++ led (thresholds l.vif (drop l.ttl-index l.ttls)) ≡ l.initial.out.items ++ led (thresholds 0 l.ttls);
}
