use Rattle.std.proofs.Common.{◌≡◌, ◌-◌, arith}
use Rattle.std.proofs.lemmas.Nat.{leading_length}
use Rattle.mr_records.proofs.rows.digits_of.Goals as goal

pub returns-clause-above : goal.returns-clause-above
returns-clause-above c =
    let r = leading_length 32 c.args.bits c.ranges.bits.fits in
    let e : 32 - lib.Count.count_leading_zeros 32 c.args.bits ≡ r.0 = omega (arith, r.1) in
    rw e r.2
