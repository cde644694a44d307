use Rattle.std.proofs.Common.{◌≤◌, length}
use Rattle.mr_base.specs.declared.numbers.Addr.{Addr}
use Rattle.mr_plain_lists.specs.Indexed.{Leads}
use Rattle.mr_plain_lists.proofs.slots.past_gone.Given as goal

abbrev pub invariant-loop-reach : goal.invariant-loop-reach
invariant-loop-reach l = record {
  within : l.reach ≤ length l.slots;
  leads : (src dst : Addr) → Leads l.slots l.fn.from (length l.slots) src dst → Leads l.slots l.reach (length l.slots) src dst;
}

abbrev pub decreases-loop-reach : goal.decreases-loop-reach
decreases-loop-reach l = l.reach
