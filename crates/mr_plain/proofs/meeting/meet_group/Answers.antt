use Rattle.std.proofs.Common.{◌≡◌, ◌∙◌, ◌++◌, List, Option, None, option_map, map, ap, sym, append-nil}
use Rattle.mr_model.specs.Counts.{Met}
use Rattle.mr_model.specs.WaitingList.{awaiting_of}
use Rattle.mr_plain_lists.specs.declared.known.Group.{Group}
use Rattle.mr_plain_lists.specs.Knowing.{awaiting, met_of}
use Rattle.mr_plain.proofs.Meetings.{none_met}
use Rattle.mr_plain.proofs.meeting.meet_group.Goals as goal

pub returns-in_default : goal.returns-in_default
returns-in_default c =
    let none : awaiting_of (map awaiting c.args.waiting.now) c.args.src c.args.dst ≡ None =
    sym c.group_of.ensures.same ∙ ap (λ (o : Option Group). option_map awaiting o) c.in_default.is in
    rw none (sym (ap (λ (ms : List Met). map met_of c.args.mets.now.items ++ ms) (none_met c.args.place c.args.released.now) ∙ append-nil (map met_of c.args.mets.now.items)))
