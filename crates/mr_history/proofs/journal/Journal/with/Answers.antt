use Rattle.std.proofs.Common.{◌≡◌, refl, rules}
use Rattle.mr_history.proofs.Journaling.{counted_first, left_first, space_first}
use Rattle.mr_history.proofs.journal.Journal.with.Goals as goal

pub invariant_of-result : goal.invariant_of-result
invariant_of-result c =
    let same : c.in-Ok-clone.kept ≡ c.args.limits.now = search rules in
    let packets : c.in-Ok.packets_left.items ≡ c.in-Ok-clone.kept.packets = search rules in
    record {
      limits = rw same c.requires;
      left = rw (c.in_ok-with.ensures.entries, packets) (left_first c.in-Ok-clone.kept);
      space = rw (c.in_ok-with.ensures.entries, packets)
          (space_first c.in-Ok-clone.kept _ c.in_ok-with.field-0.spare
          (rw same c.requires) c.in_ok-with.ensures.room
          (search rules) (search rules) (search rules) (search rules));
      counted = rw c.in_ok-with.ensures.entries
          (counted_first _ _ c.in_ok-with-2.ensures.items (search rules) refl);
    }
