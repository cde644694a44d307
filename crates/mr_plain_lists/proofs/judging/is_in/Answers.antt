use Rattle.std.proofs.Common.{◌≡◌, ◌∙◌, nat_lt, false, sym, arith}
use Rattle.std.proofs.lemmas.Grind.{common_steps}
use Rattle.mr_plain_lists.proofs.Bits.{high_bit}
use Rattle.mr_plain_lists.proofs.judging.is_in.Goals as goal

pub returns-else-vif-lt32 : goal.returns-else-vif-lt32
returns-else-vif-lt32 c =
    let none : nat_lt c.args.vif 32 ≡ false = grind (arith, common_steps) in
    none ∙ sym (high_bit c.args.outs.0 c.args.vif (omega arith) (omega arith))
