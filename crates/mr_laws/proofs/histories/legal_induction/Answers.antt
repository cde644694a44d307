use Rattle.std.proofs.Common.{◌≡◌, true}
use Rattle.mr_model.proofs.Induction as lemma
use Rattle.mr_laws.proofs.histories.legal_induction.Goals as goal

pub returns : goal.returns
returns c = λ limits test none more h l. lemma.legal_induction limits (λ g. test g ≡ true) none more h l
