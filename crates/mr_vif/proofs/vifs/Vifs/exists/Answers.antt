use Rattle.std.proofs.Common.{arith, ◌≤◌, ◌<◌, take, sym}
use Rattle.std.proofs.lemmas.Grind.{common_steps}
use Rattle.mr_vif.proofs.VifLemmas.{has_from_at, has_far}
use Rattle.mr_vif.proofs.vifs.Vifs.exists.Goals as goal

pub returns-in-Some : goal.returns-in-Some
returns-in-Some c =
    let within : c.args.vif < 32 = grind (arith, common_steps, c.in-Some.ensures, c.from.ensures) in
    rw (← c.self.view_is) (grind (
      arith,
      common_steps,
      has_from_at (take c.self.inside.count c.self.inside.records) c.args.vif,
      c.self.invariant.2.each c.args.vif within,
      c.in-Some.ensures,
      c.from.ensures,
      c.is_some.ensures,
    ))

pub returns-in-None : goal.returns-in-None
returns-in-None c =
    let far : 32 ≤ c.args.vif = grind (arith, common_steps, c.in-None.ensures, c.from.ensures) in
    rw (← c.self.view_is) (sym (has_far (take c.self.inside.count c.self.inside.records) c.args.vif c.self.invariant.1.small far))
