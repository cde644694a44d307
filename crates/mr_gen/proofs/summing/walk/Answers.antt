use Rattle.std.proofs.Common.{◌∙◌, arith, sym, refl}
use Rattle.mr_gen.specs.Adding.{copies_in}
use Rattle.mr_gen.specs.Sums.{fast_in, slow_in}
use Rattle.mr_gen.proofs.Adding.{sum_more}
use Rattle.mr_gen.proofs.Copying.{copies_each}
use Rattle.mr_gen.proofs.summing.walk.Goals as goal

pub loop-place-init : goal.loop-place-init
loop-place-init c = record {
  fast = refl;
  slow = refl;
  copies = sym (copies_each c.args.journal.now.entries);
  most_fast = omega arith;
  most_slow = omega arith;
  most_copies = omega arith;
}

pub loop-place-preserved : goal.loop-place-preserved
loop-place-preserved c =
    let v = c.loop-place.invariant in
    let a = c.added-more.ensures in
    let h = c.args.journal.now.entries in
    record {
      fast = rw a.fast (sum_more fast_in c.loop-place.sums.fast h c.loop-place.place _ c.entry.ensures ∙ v.fast);
      slow = rw a.slow (sum_more slow_in c.loop-place.sums.slow h c.loop-place.place _ c.entry.ensures ∙ v.slow);
      copies = rw a.copies (sum_more copies_in c.loop-place.sums.copies h c.loop-place.place _ c.entry.ensures ∙ v.copies);
      most_fast = omega (arith, v.most_fast, a.most_fast);
      most_slow = omega (arith, v.most_slow, a.most_slow);
      most_copies = omega (arith, v.most_copies, a.most_copies);
    }
