use Rattle.std.proofs.Common.{ap}
use Rattle.mr_model.specs.declared.entry.Entry.TheVariants.{Settle}
use Rattle.mr_model.specs.State.{State}
use Rattle.mr_model.proofs.Pushing as lemma
use Rattle.mr_laws.proofs.settling.settle_changes_nothing.Goals as goal

pub returns-clause-state : goal.returns-clause-state
returns-clause-state c = λ limits h lane records. lemma.state_push limits h (Settle lane records)

pub returns-clause-owner : goal.returns-clause-owner
returns-clause-owner c = λ limits h lane records.
    ap (λ (s : State). s.owner) (lemma.state_push limits h (Settle lane records))

pub returns-clause-tables : goal.returns-clause-tables
returns-clause-tables c = λ limits h lane records.
    ap (λ (s : State). s.tables) (lemma.state_push limits h (Settle lane records))

pub returns-clause-now : goal.returns-clause-now
returns-clause-now c = λ limits h lane records.
    ap (λ (s : State). s.now) (lemma.state_push limits h (Settle lane records))

pub returns-clause-waiting : goal.returns-clause-waiting
returns-clause-waiting c = λ limits h lane records.
    ap (λ (s : State). s.waiting) (lemma.state_push limits h (Settle lane records))

pub returns-clause-unread : goal.returns-clause-unread
returns-clause-unread c = λ limits h lane records.
    ap (λ (s : State). s.unread) (lemma.state_push limits h (Settle lane records))

pub returns-clause-attempts : goal.returns-clause-attempts
returns-clause-attempts c = λ limits h lane records.
    ap (λ (s : State). s.attempts) (lemma.state_push limits h (Settle lane records))
