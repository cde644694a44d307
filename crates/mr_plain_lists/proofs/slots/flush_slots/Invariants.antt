use Rattle.std.proofs.Common.{◌≡◌, map, take, drop, length}
use Rattle.mr_plain_lists.specs.Indexed.{flushed}
use Rattle.mr_plain_lists.proofs.slots.flush_slots.Given as goal

abbrev pub invariant-loop-i : goal.invariant-loop-i
invariant-loop-i l = record {
  size : length l.slots.items ≡ length l.fn.slots.items;
  done : take l.i l.slots.items ≡ map (flushed l.loose l.fixed) (take l.i l.fn.slots.items);
  rest : drop l.i l.slots.items ≡ drop l.i l.fn.slots.items;
}
