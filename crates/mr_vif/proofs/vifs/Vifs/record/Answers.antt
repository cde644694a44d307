use Rattle.std.proofs.Common.{arith, ◌≤◌, take, sym}
use Rattle.std.proofs.lemmas.Grind.{common_steps}
use Rattle.mr_vif.proofs.VifLemmas.{at_far}
use Rattle.mr_vif.proofs.vifs.Vifs.record.Goals as goal

pub returns-in-None : goal.returns-in-None
returns-in-None c =
    let far : 32 ≤ c.args.vif = grind (arith, common_steps, c.in-None.ensures, c.from.ensures) in
    rw (← c.self.view_is) (sym (at_far (take c.self.inside.count c.self.inside.records) c.args.vif c.self.invariant.1.small far))
