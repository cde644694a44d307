-- A packet that misses is dropped where nobody owns the machine.
use Rattle.std.specs.Prelude.{true, List, [], ◌∷◌, ◌++◌}
use Rattle.mr_model.specs.declared.ending.Ending.{Ending}
use Rattle.mr_model.specs.declared.entry.Entry.{Entry}
use Rattle.mr_model.specs.declared.entry.Entry.TheVariants.{EndPhase}
use Rattle.mr_model.specs.declared.flow.Flow.{Flow}
use Rattle.mr_model.specs.declared.limits.Limits.{Limits}
use Rattle.mr_model.specs.declared.outcome.Cause.TheVariants.{NoDaemon}
use Rattle.mr_model.specs.declared.outcome.Outcome.TheVariants.{Dropped}
use Rattle.mr_rows.specs.Samples.{source, group, usual, add_vif, good, packet, slow, vif, vif_totals}

abbrev pub limits : Limits
limits = usual 2 1 (0 ∷ [])

-- the vif is static, since an admin who is not the owner added it
abbrev pub start : List Entry
start = good 1 (add_vif 0 8 1) ∷ EndPhase ∷ []

abbrev pub missing : Flow
missing = packet 1 source group 9

abbrev pub history : List Entry
history = start ++ slow 1 2 missing (Dropped NoDaemon) ∷ EndPhase ∷ []

abbrev pub tail : Ending
tail = record { routes = []; vifs = (record (vif 0 1 1) { fixed = true }, vif_totals 0 0 0 0) ∷ []; fates = [] }
