use Rattle.mr_fates.proofs.Laning as lemma
use Rattle.mr_fates.proofs.laws.lines_of_lane.Goals as goal

pub returns-clause-next : goal.returns-clause-next
returns-clause-next c = lemma.lane_next

pub returns-clause-fit : goal.returns-clause-fit
returns-clause-fit c = lemma.lane_fits
