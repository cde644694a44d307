use Rattle.std.proofs.Common.{◌≡◌, ap, subst, arith, List}
use Rattle.std.proofs.lemmas.Bool.Decides.{nat_tests}
use mathlib.Core.List.{IsPrefix}
use Rattle.mr_model.specs.declared.change.Change.{Change}
use Rattle.mr_publish.specs.Lists.{last_number}
use Rattle.mr_publish.proofs.Prefixes.{same_last}
use Rattle.mr_publish.proofs.front.Front.is.Goals as goal

pub returns-clause-same : goal.returns-clause-same
returns-clause-same g c is =
    let this = c.self.inside.seen.log in
    let other = c.other.inside.seen.log in
    let both = c.learn.new.self.log in
    let begins : IsPrefix this both =
    subst (λ (l : List Change). IsPrefix l both) (ap (λ s. s.log) c.again-both.ensures)
    c.learn.ensures.2 in
    let last : last_number 0 this ≡ last_number 0 other =
    grind (arith, nat_tests, is, c.self.invariant.0, c.other.invariant.0) in
    rw (← c.self.view_is, ← c.other.view_is)
    (same_last this other both c.learn.ensures.4.1.rise begins c.learn.ensures.3 last)
