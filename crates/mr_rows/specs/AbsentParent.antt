-- Entries whose parent vif is deleted: one for any origin passes packets still and counts none in, an exact one passes none.
use Rattle.std.specs.Prelude.{None, List, [], ◌∷◌, ◌++◌}
use Rattle.mr_model.specs.declared.ending.Ending.{Ending}
use Rattle.mr_model.specs.declared.entry.Entry.{Entry}
use Rattle.mr_model.specs.declared.entry.Entry.TheVariants.{EndPhase}
use Rattle.mr_model.specs.declared.limits.Limits.{Limits}
use Rattle.mr_model.specs.declared.outcome.Cause.TheVariants.{NoVif}
use Rattle.mr_model.specs.declared.outcome.Outcome.TheVariants.{Dropped, Forward, Wrong}
use Rattle.mr_model.specs.declared.outcome.Report.TheVariants.{Quiet}
use Rattle.mr_model.specs.declared.request.Request.TheVariants.{DelVif}
use Rattle.mr_rows.specs.Samples.{addr, any, source, group, usual, mask, add_mfc, add_proxy, good, opening, packet, slow, route, vif, route_totals, vif_totals}

abbrev pub limits : Limits
limits = usual 2 3 (0 ∷ 1 ∷ 2 ∷ [])

abbrev pub history : List Entry
history =
    opening (0 ∷ 1 ∷ 2 ∷ [])
    ++ good 1 (add_proxy any any 0 ((0, 1) ∷ (1, 1) ∷ (2, 1) ∷ []))
    ∷ good 1 (add_mfc any group 0 ((0, 1) ∷ (1, 1) ∷ (2, 1) ∷ []))
    ∷ good 1 (add_mfc source group 0 ((1, 1) ∷ []))
    ∷ good 1 (DelVif 0)
    ∷ EndPhase
    ∷ slow 1 9 (packet 2 (addr 10 0 1 9) group 9) (Forward 6 None (mask (2 ∷ [])))
    ∷ slow 2 10 (packet 1 source group 9) (Wrong 7 None Quiet)
    ∷ slow 3 11 (packet 1 (addr 10 0 0 8) group 9) (Dropped NoVif)
    ∷ EndPhase ∷ []

abbrev pub tail : Ending
tail = record {
  routes =
      (route 5 any any 0 ((0, 1) ∷ (1, 1) ∷ (2, 1) ∷ []), route_totals 0 0 0)
      ∷ (route 6 any group 0 ((0, 1) ∷ (1, 1) ∷ (2, 1) ∷ []), route_totals 1 28 0)
      ∷ (route 7 source group 0 ((1, 1) ∷ []), route_totals 1 28 1) ∷ [];
  vifs = (vif 1 2 3, vif_totals 0 0 0 0) ∷ (vif 2 3 4, vif_totals 0 1 0 28) ∷ [];
  fates = [];
}
