use borrow.Author.Rules.{rules}
use Rattle.std.proofs.Common.{arith, nat_lt, w8}
use Rattle.std.proofs.lemmas.Simd.{bitmask_splat}
use Rattle.mr_vif.proofs.masks.bits_below.Goals as goal

pub returns : goal.returns
returns c = bitmask_splat w8 nat_lt c.args.ttls.now 32 c.args.ttl (search rules) (omega arith)
