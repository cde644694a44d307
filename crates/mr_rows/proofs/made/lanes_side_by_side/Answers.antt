use Rattle.std.proofs.Common.{refl}
use Rattle.mr_base.specs.Heads.{cause_in}
use Rattle.mr_rows.proofs.made.lanes_side_by_side.Goals as goal

pub returns : goal.returns
unfolding cause_in
returns c = refl
