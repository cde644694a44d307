use Rattle.std.proofs.Common.{◌%◌, ◌^◌, ◌≤◌, ap, ◌∙◌, arith, subst, w8}
use Rattle.std.proofs.lemmas.Simd.{tops_compared, length-zip2, mask_l-mod}
use lib.Count.{count_trailing_zeros}
use lib.Lanes.{zip2, mask_l}
use Rattle.mr_records.proofs.SameLemmas.{differ, before_lowest}
use Rattle.mr_records.proofs.same.same_bytes.Goals as goal

pub returns : goal.returns
returns c k few within =
    let a = c.args.a.now in
    let b = c.args.b.now in
    let long = length-zip2 differ a b (omega (arith, c.told-a, c.told-b)) in
    let bits = ap (λ ms. mask_l ms % 2 ^ 64) (tops_compared w8 differ a b) ∙ mask_l-mod (zip2 differ a b) 64 (omega (arith, long, c.told-a)) in
    before_lowest a b k c.told-a c.told-b few (subst (λ m. k ≤ count_trailing_zeros 64 m) bits within)
