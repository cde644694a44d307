use Rattle.std.proofs.Common.{sym, arith}
use Rattle.std.proofs.lemmas.List.Edits.{length-remove}
use Rattle.mr_history.proofs.Numbering.{rising_remove, found_without}
use Rattle.mr_history.proofs.numbered.Numbered.remove.Goals as goal

pub invariant_of-self : goal.invariant_of-self
invariant_of-self g c =
    let value = c.as_slice.ensures.value in
    let less = length-remove _ _ (rw value at c.in-Some.ensures.within) in
    rw (c.remove.ensures.items, c.remove.ensures.capacity) (
      rising_remove _ _ c.self.invariant.0,
      omega (arith, less, c.self.invariant.1),
      c.self.invariant.2,
    )

pub returns-clause-items : goal.returns-clause-items
returns-clause-items g c =
    let value = c.as_slice.ensures.value in
    rw (← c.self.view_is, c.remove.ensures.items)
    (sym (found_without _ _ _ c.remove.result c.self.invariant.0
    (rw value at c.in-Some.ensures.within) (rw value at c.in-Some.ensures.found)))
