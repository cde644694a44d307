use Rattle.std.proofs.Common.{◌≡◌, ℕ, suc, ◌≤◌, ◌&&◌, true, Some, Bool, find, length, take, slice_get}
use Rattle.mr_base.specs.declared.route.Route.{Route}
use Rattle.mr_model.specs.RouteList.{is_entry}
use Rattle.mr_plain_lists.specs.declared.slots.Slot.{Slot}
use Rattle.mr_plain_lists.specs.Finding.{Answers}
use Rattle.mr_plain_lists.specs.Indexed.{newest_first}
use Rattle.mr_plain_lists.proofs.slots.first_from.Given as goal

-- it is still to be found among the first places
abbrev pub invariant-loop-reach : goal.invariant-loop-reach
invariant-loop-reach g l = record {
  within : l.reach ≤ length l.slots;
  last : (j : ℕ) (x : Slot) → l.reach ≡ suc j → slice_get l.slots j ≡ Some x → is_entry l.fn.src l.fn.dst x.route ≡ true;
  same : (t : Route → Bool) → Answers g.F.Fn l.test t → find (λ r. is_entry l.fn.src l.fn.dst r && t r) (newest_first (take l.reach l.slots))
      ≡ find (λ r. is_entry l.fn.src l.fn.dst r && t r) (newest_first l.slots);
}

abbrev pub decreases-loop-reach : goal.decreases-loop-reach
decreases-loop-reach g l = l.reach
