use Rattle.std.proofs.Common.{nat_le, refl, ap, subst, List}
use mathlib.Core.List.{IsPrefix}
use Rattle.mr_model.specs.declared.change.Change.{Change}
use Rattle.mr_publish.proofs.Prefixes.{begins_by}
use Rattle.mr_publish.proofs.front.Front.begins.Goals as goal

pub returns-clause-begins : goal.returns-clause-begins
returns-clause-begins g c =
    let this = c.self.inside in
    let other = c.other.inside in
    let both = c.learn.new.self.log in
    let begins : IsPrefix this.seen.log both =
    subst (λ (l : List Change). IsPrefix l both) (ap (λ s. s.log) c.again-both.ensures)
    c.learn.ensures.2 in
    let by_test = begins_by this.version other.version this.seen.log other.seen.log both
    c.self.invariant.0 c.other.invariant.0 c.learn.ensures.4.1.rise begins c.learn.ensures.3
    (nat_le this.version other.version) refl in
    rw (← c.self.view_is, ← c.other.view_is) (by_test.0)

pub returns-clause-begun : goal.returns-clause-begun
returns-clause-begun g c =
    let this = c.self.inside in
    let other = c.other.inside in
    let both = c.learn.new.self.log in
    let begins : IsPrefix this.seen.log both =
    subst (λ (l : List Change). IsPrefix l both) (ap (λ s. s.log) c.again-both.ensures)
    c.learn.ensures.2 in
    let by_test = begins_by this.version other.version this.seen.log other.seen.log both
    c.self.invariant.0 c.other.invariant.0 c.learn.ensures.4.1.rise begins c.learn.ensures.3
    (nat_le this.version other.version) refl in
    rw (← c.self.view_is, ← c.other.view_is) (by_test.1)
