use Rattle.std.proofs.Common.{arith, ◌≡◌, ◌<◌, take}
use Rattle.std.proofs.lemmas.Grind.{common_steps}
use Rattle.mr_model.specs.VifList.{vif_on}
use Rattle.mr_vif.proofs.VifLemmas.{on_small}
use Rattle.mr_vif.proofs.vifs.Vifs.of_device.Goals as goal

pub returns-in-Some-clause-small : goal.returns-in-Some-clause-small
returns-in-Some-clause-small c =
    let within : c.args.dev < 65 = grind (arith, common_steps, c.in-Some.ensures) in
    let same : c.in-Some.vif.now ≡ vif_on (take c.self.inside.count c.self.inside.records) c.args.dev
    = grind (arith, common_steps, c.in-Some.ensures, c.self.invariant.2.devices c.args.dev within) in
    rw same (on_small (take c.self.inside.count c.self.inside.records) c.args.dev c.self.invariant.1.small)

pub returns-in-None-clause-small : goal.returns-in-None-clause-small
returns-in-None-clause-small c = rw (c.highest_on.ensures, c.list.ensures.records) (on_small c.args.self.now c.args.dev c.list.ensures.rules.small)
