use Rattle.mr_vif.proofs.MaskLemmas.{origin}
use Rattle.mr_vif.proofs.laws.origin_outs.Goals as goal

pub returns : goal.returns
returns c = origin
