use Rattle.std.proofs.Common.{◌≡◌, ◌++◌, length, map, take, drop, vec_len, vec_capacity}
use Rattle.mr_plain.specs.Fates.{line_by}
use Rattle.mr_plain_lists.specs.Knowing.{state_of}
use Rattle.mr_plain.proofs.lines.end_lines.Given as goal

abbrev pub invariant-loop-i : goal.invariant-loop-i
invariant-loop-i l = record {
  size : length l.lines.items ≡ length l.initial.lines.items;
  len : vec_len l.lines ≡ vec_len l.initial.lines;
  room : vec_capacity l.lines ≡ vec_capacity l.initial.lines;
  done : take l.i l.lines.items ++ map (line_by (state_of l.known) l.entry) (drop l.i l.lines.items) ≡ map (line_by (state_of l.known) l.entry) l.initial.lines.items;
}
