-- A packet waits ten seconds and no longer.
use Rattle.std.specs.Prelude.{List, [], ◌∷◌, ◌++◌}
use Rattle.mr_model.specs.declared.ending.Ending.{Ending}
use Rattle.mr_model.specs.declared.ending.Fate.TheVariants.{Expired}
use Rattle.mr_model.specs.declared.entry.Entry.{Entry}
use Rattle.mr_model.specs.declared.entry.Entry.TheVariants.{EndPhase}
use Rattle.mr_model.specs.declared.flow.Flow.{Flow}
use Rattle.mr_model.specs.declared.limits.Limits.{Limits}
use Rattle.mr_model.specs.declared.outcome.Outcome.TheVariants.{Parked}
use Rattle.mr_rows.specs.Samples.{source, group, usual, opening, tick, packet, slow, vif, vif_totals, fate_line}

abbrev pub limits : Limits
limits = usual 3 1 (0 ∷ [])

abbrev pub missing : Flow
missing = packet 1 source group 9

abbrev pub parked : List Entry
parked = opening (0 ∷ []) ++ EndPhase ∷ slow 1 3 missing Parked ∷ EndPhase ∷ []

abbrev pub history : List Entry
history = parked ++ tick 9999 ∷ tick 1 ∷ EndPhase ∷ []

abbrev pub tail : Ending
tail = record { routes = []; vifs = (vif 0 1 2, vif_totals 0 0 0 0) ∷ []; fates = fate_line 1 (Expired 7) ∷ [] }
