use Rattle.std.proofs.Common.{sym}
use Rattle.mr_history.proofs.Numbering.{found_value}
use Rattle.mr_history.proofs.numbered.Numbered.get.Goals as goal

pub returns : goal.returns
returns g c =
    let value = c.as_slice.ensures.value in
    rw (← c.self.view_is)
    (sym (found_value _ _ _ _ c.self.invariant.0 (rw value at c.in_ok-place.ensures.within)
    (rw value at c.in_ok-place.ensures.found) c.index.ensures))
