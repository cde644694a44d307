-- Two entries of one group for any origin: the newer one is met where it serves the vif of the device, else the older one.
use Rattle.std.specs.Prelude.{Some, List, [], ◌∷◌, ◌++◌}
use Rattle.mr_model.specs.declared.ending.Ending.{Ending}
use Rattle.mr_model.specs.declared.ending.Fate.TheVariants.{Waiting}
use Rattle.mr_model.specs.declared.entry.Entry.{Entry}
use Rattle.mr_model.specs.declared.entry.Entry.TheVariants.{EndPhase}
use Rattle.mr_model.specs.declared.limits.Limits.{Limits}
use Rattle.mr_model.specs.declared.outcome.Outcome.TheVariants.{Parked, Wrong}
use Rattle.mr_model.specs.declared.outcome.Report.TheVariants.{Quiet}
use Rattle.mr_rows.specs.Samples.{addr, any, source, group, second_group, usual, add_mfc, add_proxy, good, opening, packet, slow, forward, route, vif, route_totals, vif_totals, fate_line}

abbrev pub limits : Limits
limits = usual 2 4 (0 ∷ 1 ∷ 2 ∷ [])

abbrev pub history : List Entry
history =
    opening (0 ∷ 1 ∷ 2 ∷ [])
    ++ good 1 (add_mfc any group 0 ((0, 1) ∷ (1, 1) ∷ (2, 9) ∷ []))
    ∷ good 1 (add_proxy any group 2 ((0, 1) ∷ (2, 8) ∷ []))
    ∷ EndPhase
    ∷ slow 1 7 (packet 2 (addr 10 0 1 9) group 9) (Wrong 5 (Some 1) Quiet)
    ∷ slow 2 8 (packet 1 source group 9) (Wrong 6 (Some 0) Quiet)
    ∷ slow 3 9 (packet 3 (addr 10 0 2 9) group 9) (forward 6 2 (0 ∷ []))
    ∷ slow 4 10 (packet 1 source second_group 9) Parked
    ∷ EndPhase ∷ []

abbrev pub tail : Ending
tail = record {
  routes =
      (route 5 any group 0 ((0, 1) ∷ (1, 1) ∷ (2, 9) ∷ []), route_totals 1 28 1)
      ∷ (route 6 any group 2 ((0, 1) ∷ (2, 8) ∷ []), route_totals 2 56 1) ∷ [];
  vifs = (vif 0 1 2, vif_totals 0 1 0 28) ∷ (vif 1 2 3, vif_totals 0 0 0 0) ∷ (vif 2 3 4, vif_totals 1 0 28 0) ∷ [];
  fates = fate_line 4 Waiting ∷ [];
}
