use Rattle.std.proofs.Common.{refl, arith, ◌≤◌, ◌+◌, length}
use Rattle.mr_model.specs.declared.entry.Entry.TheVariants.{Slow}
use Rattle.mr_model.specs.Counts.{met, met_by}
use Rattle.mr_history.proofs.Journaling.{lane_used, counted_push, few_met, met_most, met_within}
use Rattle.mr_history.proofs.journal.Journal.push_slow.Goals as goal

pub invariant_of-self : goal.invariant_of-self
invariant_of-self c =
    let v = c.self.invariant in
    let e = Slow c.args.lane c.args.index c.args.look c.args.flow.now c.args.outcome.now in
    let limits = c.self.inside.limits in
    let h = c.self.inside.store.entries in
    let old = c.self.inside.totals in
    let q = rw (← c.self.view_is) at c.requires in
    let place = c.len-place.ensures in
    let most : length (met_by (length h) c.args.flow.now.length c.args.outcome.now) ≤ 1 =
    met_most (length h) c.args.flow.now.length c.args.outcome.now in
    let used = lane_used limits h e _ _ c.self.inside.packets_left.items c.args.lane 1
    c.index_mut.result.now _ _ v.left v.space c.push_slow.ensures.room
    refl refl (λ l. refl) refl q.lane (omega arith)
    (omega (arith, q.left)) c.index_mut.ensures.value most in
    let short = rw place at c.count_outcome.ensures.short in
    let few = few_met limits h e old _ _ _ 0 _ v.counted v.space short (omega (arith, most)) in
    let sums = rw place at c.count_outcome.ensures.sums (met h) in
    record {
      limits = v.limits;
      left = rw c.push_slow.ensures.entries used.0;
      space = rw c.push_slow.ensures.entries used.1;
      counted = rw c.push_slow.ensures.entries
          (counted_push limits h e old c.count_outcome.new.totals v.counted short
          (met_within (length h) c.args.flow.now.length (length h + 1) c.args.outcome.now
          (omega arith) q.named) (sums few v.counted.totals) c.count_outcome.ensures.same);
    }
