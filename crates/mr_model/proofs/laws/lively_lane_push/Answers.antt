use Rattle.mr_model.proofs.Livening as lemma
use Rattle.mr_model.proofs.laws.lively_lane_push.Goals as goal

pub returns-clause-lane : goal.returns-clause-lane
returns-clause-lane c = lemma.lively_lane

pub returns-clause-behind : goal.returns-clause-behind
returns-clause-behind c = lemma.lively_behind

pub returns-clause-short : goal.returns-clause-short
returns-clause-short c = lemma.left_short_push
