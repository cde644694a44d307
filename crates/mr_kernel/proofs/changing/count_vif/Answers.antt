use Rattle.std.proofs.Common.{◌∙◌, ap}
use Rattle.mr_vif.proofs.VifLemmas.{at_free}
use Rattle.mr_kernel.proofs.ChangesVifs.{number_of}
use Rattle.mr_kernel.proofs.changing.count_vif.Goals as goal

pub born_vif-requires-clause-new : goal.born_vif-requires-clause-new
born_vif-requires-clause-new c =
    c.requires.counts c.args.vif c.requires.small
    ∙ ap number_of (at_free c.args.vifs.now c.args.vif c.requires.free)
