use Rattle.std.proofs.Common.{◌≡◌, ℕ, ◌+◌, ◌-◌, ◌≤◌, ◌<◌, ◌^◌, length, decimal, ap, arith}
use Rattle.std.proofs.lemmas.Fmt.{length-decimal-le}
use Rattle.std.proofs.lemmas.List.{drop-set}
use Rattle.mr_records.proofs.rows.put_part.Goals as goal

-- a number of 32 bits has at most ten digits
short : (n : ℕ) → n < 2 ^ 32 → length (decimal n) ≤ 10
short n l = length-decimal-le 10 n (omega arith) (omega arith) (omega arith)

pub write_digits-at-requires : goal.write_digits-at-requires
write_digits-at-requires g c = (omega (arith, short c.args.number c.ranges.number.fits, ap (λ n. length (decimal n)) c.from.ensures), omega arith)

pub overflow_sub-at : goal.overflow_sub-at
overflow_sub-at g c =
    omega (arith, short c.args.number c.ranges.number.fits, ap (λ n. length (decimal n)) c.from.ensures, c.write_digits-at.ensures.start)

pub returns-clause-text : goal.returns-clause-text
returns-clause-text g c =
    let w = c.write_digits-at in
    let small = short c.args.number c.ranges.number.fits in
    let same = ap (λ n. length (decimal n)) c.from.ensures in
    let e : w.result - 1 + 1 ≡ w.result = omega (arith, small, same, w.ensures.start) in
    rw (drop-set w.new.buf (w.result - 1) c.args.byte (omega (arith, small, same, w.ensures.start)), e, w.ensures.written, c.from.ensures)

pub returns-clause-start : goal.returns-clause-start
returns-clause-start g c =
    omega (arith, short c.args.number c.ranges.number.fits, ap (λ n. length (decimal n)) c.from.ensures, c.write_digits-at.ensures.start)

pub returns-clause-within : goal.returns-clause-within
returns-clause-within g c =
    omega (arith, short c.args.number c.ranges.number.fits, ap (λ n. length (decimal n)) c.from.ensures, c.write_digits-at.ensures.start)
