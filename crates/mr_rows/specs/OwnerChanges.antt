-- The owner leaves and a plain daemon takes its place: the unread report and the packet that waited are gone.
use Rattle.std.specs.Prelude.{true, false, Some, None, List, [], ◌∷◌, ◌++◌}
use Rattle.mr_base.specs.declared.errno.Errno.TheVariants.{Access}
use Rattle.mr_model.specs.declared.ending.Ending.{Ending}
use Rattle.mr_model.specs.declared.ending.Fate.TheVariants.{Flushed, Waiting}
use Rattle.mr_model.specs.declared.entry.Entry.{Entry}
use Rattle.mr_model.specs.declared.entry.Entry.TheVariants.{EndPhase, Recv}
use Rattle.mr_model.specs.declared.flow.Flow.{Flow}
use Rattle.mr_model.specs.declared.limits.Limits.{Limits}
use Rattle.mr_model.specs.declared.message.Kind.TheVariants.{NoCache}
use Rattle.mr_model.specs.declared.outcome.Outcome.TheVariants.{Parked}
use Rattle.mr_model.specs.declared.request.Request.TheVariants.{Finish, Init}
use Rattle.mr_rows.specs.Samples.{source, group, devices_at, limits_of, daemon, add_vif, good, refused, opening, report, packet, slow, vif, vif_totals, fate_line, fixed_vif}

abbrev pub limits : Limits
limits = limits_of 5 (2 ∷ []) (true ∷ false ∷ []) (devices_at (0 ∷ []))

abbrev pub missing : Flow
missing = packet 1 source group 9

abbrev pub before_leaving : List Entry
before_leaving =
    opening (0 ∷ [])
    ++ EndPhase
    ∷ slow 1 3 missing Parked
    ∷ EndPhase
    ∷ Recv (daemon 2) None
    ∷ refused 2 Finish Access ∷ []

-- up to the second packet, which is reported with the higher vif of its device
abbrev pub second_reported : List Entry
second_reported =
    before_leaving
    ++ good 1 Finish
    ∷ good 2 Init
    ∷ Recv (daemon 2) None
    ∷ good 2 (add_vif 0 8 1)
    ∷ good 1 (add_vif 1 8 1)
    ∷ EndPhase
    ∷ slow 2 13 missing Parked
    ∷ EndPhase ∷ []

abbrev pub history : List Entry
history =
    second_reported
    ++ Recv (daemon 1) None
    ∷ Recv (daemon 2) (Some (report NoCache 1 2))
    ∷ EndPhase ∷ []

abbrev pub tail : Ending
tail = record {
  routes = [];
  vifs = (vif 0 1 11, vif_totals 0 0 0 0) ∷ (fixed_vif 1 1 12, vif_totals 0 0 0 0) ∷ [];
  fates = fate_line 1 (Flushed 8) ∷ fate_line 2 Waiting ∷ [];
}
