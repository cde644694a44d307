use Rattle.std.proofs.Common.{◌≡◌, refl, arith, ◌≤◌, ◌+◌, ◌-◌, length}
use Rattle.mr_model.specs.declared.entry.Entry.TheVariants.{Call}
use Rattle.mr_model.specs.Counts.{met, met_in, length_of}
use Rattle.mr_history.specs.Totals.{released_mets}
use Rattle.mr_history.proofs.Gathering.{released_are}
use Rattle.mr_history.proofs.Journaling.{left_control, space_push, counted_push, few_met}
use Rattle.mr_history.proofs.Journaling.{released_most, released_within}
use Rattle.mr_history.proofs.journal.Journal.push_call.Goals as goal

pub invariant_of-self : goal.invariant_of-self
invariant_of-self c =
    let v = c.self.invariant in
    let e = Call c.args.daemon c.args.request.now c.args.reply.now c.args.released.now in
    let limits = c.self.inside.limits in
    let h = c.self.inside.store.entries in
    let old = c.self.inside.totals in
    let q = rw (← c.self.view_is) at c.requires in
    let some : 1 ≤ c.self.inside.controls_left = omega (arith, v.left.controls_are, q.left) in
    let mets : released_mets (length h + 1) c.args.released.now c.args.lengths.now ≡ met_in h e =
    rw q.lengths (released_are (length h + 1)
    (λ x. length_of h x.lane x.index) c.args.released.now) in
    let most : length (met_in h e) ≤ 4 =
    rw (← mets) (omega (
      arith,
      released_most
          (length h + 1) c.args.released.now c.args.lengths.now,
      q.few,
    )) in
    let short = rw (c.len-place.ensures, mets) at c.count_released.ensures.short in
    let few = few_met limits h e old _ _ _ 0 _ v.counted v.space short (omega (arith, most)) in
    let sums = rw (c.len-place.ensures, mets) at c.count_released.ensures.sums (met h) in
    record {
      limits = v.limits;
      left = rw c.push_call.ensures.entries
          (left_control limits h e _ _ _ v.left refl refl (λ lane. refl) some);
      space = rw c.push_call.ensures.entries
          (space_push h e _ _ _ _ (c.self.inside.controls_left - 1) c.self.inside.phases_left 1 0
          0 0 1 (length c.args.released.now)
          c.self.inside.packets_left.items c.self.inside.packets_left.items v.space
          c.push_call.ensures.room
          (omega (arith, some)) (omega arith) (omega arith) (omega arith) (omega arith)
          (omega (arith, q.few)) (omega arith) (omega (arith, most)));
      counted = rw c.push_call.ensures.entries
          (counted_push limits h e old c.count_released.new.totals v.counted short
          (rw (← mets) (released_within
          (length h + 1) c.args.released.now c.args.lengths.now q.named))
          (sums few v.counted.totals) c.count_released.ensures.same);
    }
