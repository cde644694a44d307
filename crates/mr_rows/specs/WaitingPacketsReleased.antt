-- Four packets wait, a fifth is dropped, and a new entry of their source and group releases the four, oldest first.
use Rattle.std.specs.Prelude.{Some, None, List, [], ◌∷◌, ◌++◌}
use Rattle.mr_model.specs.declared.ending.Ending.{Ending}
use Rattle.mr_model.specs.declared.ending.Fate.TheVariants.{Released}
use Rattle.mr_model.specs.declared.entry.Entry.{Entry}
use Rattle.mr_model.specs.declared.entry.Entry.TheVariants.{Call, EndPhase}
use Rattle.mr_model.specs.declared.flow.Flow.{Flow}
use Rattle.mr_model.specs.declared.limits.Limits.{Limits}
use Rattle.mr_model.specs.declared.message.Kind.TheVariants.{NoCache}
use Rattle.mr_model.specs.declared.outcome.Cause.TheVariants.{Packets}
use Rattle.mr_model.specs.declared.outcome.Outcome.{Outcome}
use Rattle.mr_model.specs.declared.outcome.Outcome.TheVariants.{Dropped, Parked}
use Rattle.mr_model.specs.declared.reply.Reply.TheVariants.{Good}
use Rattle.mr_model.specs.declared.request.Request.{Request}
use Rattle.mr_rows.specs.Samples.{source, group, usual, daemon, add_mfc, opening, recv, report, packet, slow, forward, freed, route, vif, route_totals, vif_totals, fate_line}

abbrev pub limits : Limits
limits = usual 3 5 (0 ∷ 1 ∷ [])

abbrev pub missing : Flow
missing = packet 1 source group 9

-- up to the fourth packet
abbrev pub four_wait : List Entry
four_wait =
    opening (0 ∷ 1 ∷ [])
    ++ EndPhase
    ∷ slow 1 4 missing Parked
    ∷ slow 2 5 missing Parked
    ∷ slow 3 6 missing Parked
    ∷ slow 4 7 missing Parked ∷ []

abbrev pub before_receive : List Entry
before_receive = four_wait ++ slow 5 8 missing (Dropped Packets) ∷ EndPhase ∷ []

abbrev pub before_entry : List Entry
before_entry = before_receive ++ recv (Some (report NoCache 0 1)) ∷ recv None ∷ []

-- what becomes of each packet that is released
abbrev pub sent : Outcome
sent = forward 13 0 (1 ∷ [])

abbrev pub entry_made : Request
entry_made = add_mfc source group 0 ((1, 1) ∷ [])

abbrev pub history : List Entry
history =
    before_entry
    ++ Call (daemon 1) entry_made Good (freed 1 sent ∷ freed 2 sent ∷ freed 3 sent ∷ freed 4 sent ∷ [])
    ∷ EndPhase ∷ []

abbrev pub tail : Ending
tail = record {
  routes = (route 13 source group 0 ((1, 1) ∷ []), route_totals 4 112 0) ∷ [];
  vifs = (vif 0 1 2, vif_totals 4 0 112 0) ∷ (vif 1 2 3, vif_totals 0 4 0 112) ∷ [];
  fates =
      fate_line 1 (Released 13) ∷ fate_line 2 (Released 13)
      ∷ fate_line 3 (Released 13) ∷ fate_line 4 (Released 13) ∷ [];
}
