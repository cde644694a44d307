use Rattle.std.proofs.Common.{◌≡◌, refl, arith, length, map}
use Rattle.std.proofs.lemmas.List.{length-map}
use Rattle.mr_model.specs.declared.entry.Entry.TheVariants.{Settle}
use Rattle.mr_model.specs.Counts.{met, met_fast}
use Rattle.mr_history.proofs.Journaling.{lane_used, counted_push, few_met, fast_within}
use Rattle.mr_history.proofs.journal.Journal.push_settle.Goals as goal

pub invariant_of-self : goal.invariant_of-self
invariant_of-self c =
    let v = c.self.invariant in
    let e = Settle c.args.lane c.args.records.now in
    let limits = c.self.inside.limits in
    let h = c.self.inside.store.entries in
    let old = c.self.inside.totals in
    let q = rw (← c.self.view_is) at c.requires in
    let same : length (map met_fast c.args.records.now) ≡ length c.args.records.now =
    length-map c.args.records.now met_fast in
    let used = lane_used limits h e _ _ c.self.inside.packets_left.items c.args.lane
    (length c.args.records.now) c.index_mut.result.now _ _ v.left v.space
    c.push_settle.ensures.room refl refl
    (λ l. refl) refl q.lane q.some q.left c.index_mut.ensures.value (omega (arith, same)) in
    let few = few_met limits h e old _ _ _ 0 _ v.counted v.space c.count_fast.ensures.short
    (omega (arith, same, q.most)) in
    record {
      limits = v.limits;
      left = rw c.push_settle.ensures.entries used.0;
      space = rw c.push_settle.ensures.entries used.1;
      counted = rw c.push_settle.ensures.entries
          (counted_push limits h e old c.count_fast.new.totals v.counted c.count_fast.ensures.short
          (fast_within (length h) c.args.records.now q.looks q.named)
          (c.count_fast.ensures.sums (met h) few v.counted.totals) c.count_fast.ensures.same);
    }
