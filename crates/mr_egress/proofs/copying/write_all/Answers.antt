use Rattle.mr_egress.specs.Files.{each_way}
use Rattle.mr_egress.proofs.copying.write_all.Goals as goal

pub returns : goal.returns
unfolding each_way
returns c = c.in_ok-write_each.ensures
