use Rattle.std.proofs.Common.{arith}
use Rattle.mr_gen.proofs.Loading.{fits_machine, loads, some_lane}
use Rattle.mr_gen.proofs.generating.generate.Goals as goal

pub put_together-requires-clause-packets : goal.put_together-requires-clause-packets
put_together-requires-clause-packets c = omega (arith, some_lane c.args.lanes c.args.packets c.requires.one_lane, c.requires.few)

pub returns-in-Ok-clause-loaded : goal.returns-in-Ok-clause-loaded
returns-in-Ok-clause-loaded c =
    λ files. loads files c.args.seed c.args.lanes c.args.packets _ c.requires.lanes c.requires.few c.in-Ok.ensures.scenario c.in-Ok.ensures.dealt

pub returns-in-Ok-clause-machine : goal.returns-in-Ok-clause-machine
returns-in-Ok-clause-machine c = fits_machine c.args.seed c.args.lanes c.args.packets _ c.requires.lanes c.requires.few c.in-Ok.ensures.dealt
