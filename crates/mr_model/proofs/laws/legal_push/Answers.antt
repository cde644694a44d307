use Rattle.std.specs.Prelude.{[], ◌∷◌}
use Rattle.mr_model.proofs.Pushing as lemma
use Rattle.mr_model.proofs.laws.legal_push.Goals as goal

pub returns-clause-longer : goal.returns-clause-longer
returns-clause-longer c = lemma.legal_push

pub returns-clause-shorter : goal.returns-clause-shorter
returns-clause-shorter c = λ limits h e. lemma.legal_front limits h (e ∷ [])

pub returns-clause-agrees : goal.returns-clause-agrees
returns-clause-agrees c = λ limits h e. lemma.legal_at limits h e []
