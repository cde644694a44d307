use Rattle.std.proofs.Common.{replicate, refl, arith}
use Rattle.mr_tables.proofs.Sending.{one_ttl, no_ttl}
use Rattle.mr_tables.proofs.deciding.alone.Goals as goal

pub returns-then-place-lt32 : goal.returns-then-place-lt32
returns-then-place-lt32 c = λ i.
    rw c.from-place.ensures
    (one_ttl (replicate 32 255) c.args.ttls.now c.args.vif i refl (omega arith)
    (omega (arith, c.told-ttls)))

pub returns-else-place-lt32 : goal.returns-else-place-lt32
returns-else-place-lt32 c = λ i.
    no_ttl (replicate 32 255) c.args.ttls.now c.args.vif i refl (omega (arith, c.told-ttls))
