use Rattle.mr_mfc.proofs.Falling.{there_if_some}
use Rattle.mr_mfc.proofs.cache.Cache.find.Goals as goal

pub returns-clause-there : goal.returns-clause-there
returns-clause-there c = rw (c.first_named.ensures, c.as_slice.ensures.value, ← c.self.view_is) (there_if_some _ c.self.inside.newest_first.items)
