use Rattle.std.proofs.Common.{sym}
use Rattle.std.proofs.Math.ListN.{length-set}
use Rattle.mr_history.proofs.Numbering.{found_with}
use Rattle.mr_history.proofs.numbered.Numbered.set.Goals as goal

pub invariant_of-self : goal.invariant_of-self
invariant_of-self g c =
    let value = c.as_slice.ensures.value in
    let found = found_with _ _ _ c.args.value c.self.invariant.0
    (rw value at c.in-Some.ensures.within) (rw value at c.in-Some.ensures.found) in
    (found.1, rw length-set c.self.invariant.1, c.self.invariant.2)

pub returns-clause-items : goal.returns-clause-items
returns-clause-items g c =
    let value = c.as_slice.ensures.value in
    let found = found_with _ _ _ c.args.value c.self.invariant.0
    (rw value at c.in-Some.ensures.within) (rw value at c.in-Some.ensures.found) in
    rw (← c.self.view_is) (sym found.0)
