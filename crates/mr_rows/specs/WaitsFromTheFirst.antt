-- The ten seconds of a waiting entry begin with its first packet; after it has expired the next packet makes another one.
use Rattle.std.specs.Prelude.{List, [], ◌∷◌, ◌++◌}
use Rattle.mr_model.specs.declared.ending.Ending.{Ending}
use Rattle.mr_model.specs.declared.ending.Fate.TheVariants.{Expired, Waiting}
use Rattle.mr_model.specs.declared.entry.Entry.{Entry}
use Rattle.mr_model.specs.declared.entry.Entry.TheVariants.{EndPhase}
use Rattle.mr_model.specs.declared.flow.Flow.{Flow}
use Rattle.mr_model.specs.declared.limits.Limits.{Limits}
use Rattle.mr_model.specs.declared.message.Kind.TheVariants.{NoCache}
use Rattle.mr_model.specs.declared.message.MessageId.{MessageId}
use Rattle.mr_model.specs.declared.outcome.Outcome.TheVariants.{Parked}
use Rattle.mr_rows.specs.Samples.{addr, source, group, usual, opening, tick, report, packet, slow, vif, vif_totals, fate_line}

abbrev pub limits : Limits
limits = usual 7 4 (0 ∷ [])

abbrev pub missing : Flow
missing = packet 1 source group 9

abbrev pub other : Flow
other = packet 1 (addr 10 0 0 8) group 9

abbrev pub history : List Entry
history =
    opening (0 ∷ [])
    ++ EndPhase
    ∷ slow 1 3 missing Parked
    ∷ EndPhase
    ∷ tick 6000
    ∷ EndPhase
    ∷ slow 2 7 missing Parked
    ∷ slow 3 8 other Parked
    ∷ EndPhase
    ∷ tick 4000
    ∷ EndPhase
    ∷ slow 4 12 missing Parked
    ∷ EndPhase
    ∷ tick 6000
    ∷ EndPhase ∷ []

abbrev pub reports : List MessageId
reports = report NoCache 0 1 ∷ report NoCache 0 3 ∷ report NoCache 0 4 ∷ []

abbrev pub tail : Ending
tail = record {
  routes = [];
  vifs = (vif 0 1 2, vif_totals 0 0 0 0) ∷ [];
  fates = fate_line 1 (Expired 11) ∷ fate_line 2 (Expired 11) ∷ fate_line 3 (Expired 15) ∷ fate_line 4 Waiting ∷ [];
}
