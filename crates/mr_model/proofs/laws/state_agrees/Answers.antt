use Rattle.mr_model.proofs.Agreement as lemma
use Rattle.mr_model.proofs.laws.state_agrees.Goals as goal

pub returns-clause-owner : goal.returns-clause-owner
returns-clause-owner c = lemma.owner_agrees

pub returns-clause-pim : goal.returns-clause-pim
returns-clause-pim c = lemma.pim_agrees

pub returns-clause-asserts : goal.returns-clause-asserts
returns-clause-asserts c = lemma.asserts_agrees

pub returns-clause-now : goal.returns-clause-now
returns-clause-now c = lemma.now_agrees

pub returns-clause-attempts : goal.returns-clause-attempts
returns-clause-attempts c = lemma.attempts_agree

pub returns-clause-attempt : goal.returns-clause-attempt
returns-clause-attempt c = lemma.attempt_agrees
