use Rattle.mr_mfc.proofs.Falling.{above_first}
use Rattle.mr_mfc.proofs.search.is_above.Goals as goal

pub returns-in-len1-up : goal.returns-in-len1-up
returns-in-len1-up c = above_first c.args.number c.args.routes.now _ c.in-len1-up.len_at_least c.requires
