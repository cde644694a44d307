use Rattle.mr_vif.proofs.MaskLemmas.{meet}
use Rattle.mr_vif.proofs.laws.masks_meet.Goals as goal

pub returns : goal.returns
returns c = meet
