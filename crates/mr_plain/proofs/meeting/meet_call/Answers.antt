use Rattle.std.proofs.Common.{◌∙◌, ◌++◌, List, map, ap, sym, append-nil}
use Rattle.mr_model.specs.Counts.{Met}
use Rattle.mr_plain_lists.specs.Knowing.{awaiting, met_of}
use Rattle.mr_plain.proofs.Meetings.{none_met, other_waits}
use Rattle.mr_plain.proofs.meeting.meet_call.Goals as goal

pub returns-in_default : goal.returns-in_default
returns-in_default c =
    rw (other_waits (map awaiting c.args.waiting.now) c.args.request.now c.in_default.not-AddMfc c.in_default.not-AddProxy)
    (sym (ap (λ (ms : List Met). map met_of c.args.mets.now.items ++ ms) (none_met c.args.place c.args.released.now) ∙ append-nil (map met_of c.args.mets.now.items)))
