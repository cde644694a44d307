use Rattle.std.proofs.Common.{refl, arith, ◌<◌, length}
use Rattle.std.proofs.Math.ListN.{length-set}
use Rattle.mr_model.specs.Counts.{met}
use Rattle.mr_history.proofs.Bearing.{numbers_of_set, born_in, born_out, no_vif_yet}
use Rattle.mr_history.proofs.Journaling.{counted_vifs}
use Rattle.mr_history.proofs.journal.Journal.born_vif.Goals as goal

pub invariant_of-self : goal.invariant_of-self
invariant_of-self c =
    let v = c.self.invariant in
    let q = rw (← c.self.view_is) at c.requires in
    let h = c.self.inside.store.entries in
    let ks = c.self.inside.totals.vifs in
    let inside : c.from.result < length ks =
    omega (arith, v.counted.vifs, q.index, c.from.ensures) in
    let d = c.default.ensures in
    let zero = no_vif_yet c.default.result d.0 d.1.0 d.1.1.0 d.1.1.1 in
    record {
      limits = v.limits;
      left = v.left;
      space = v.space;
      counted = counted_vifs c.self.inside.limits h c.self.inside.totals _ v.counted refl
          (rw length-set v.counted.vifs)
          (rw (q.next, zero)
          (born_in (met h) ks c.from.result
          (length h) inside v.counted.within v.counted.totals.ins))
          (rw (q.next, zero)
          (born_out (met h) ks c.from.result
          (length h) inside v.counted.within v.counted.totals.outs));
    }

pub returns : goal.returns
returns c = rw (
  ← c.self.view_is,
  numbers_of_set c.self.inside.totals.vifs c.from.result _,
  c.from.ensures,
) refl
