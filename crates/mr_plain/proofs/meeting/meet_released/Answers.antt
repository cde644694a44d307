use Rattle.std.proofs.Common.{◌∙◌, ◌++◌, List, map, drop, ap, sym, append-nil}
use Rattle.mr_model.specs.Counts.{Met}
use Rattle.mr_plain_lists.specs.Knowing.{met_of}
use Rattle.mr_plain.proofs.Meetings.{no_more}
use Rattle.mr_plain.proofs.meeting.meet_released.Goals as goal

pub returns-in_default : goal.returns-in_default
returns-in_default c =
    sym (append-nil (map met_of c.loop-x.mets.items))
    ∙ ap (λ (ms : List Met). map met_of c.loop-x.mets.items ++ ms) (sym (no_more c.args.place (drop c.loop-x.x-index c.args.released.now) c.loop-x.waiting.now c.in_default.len_below))
    ∙ c.loop-x.invariant.met
