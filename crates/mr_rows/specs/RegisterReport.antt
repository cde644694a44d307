-- A copy on the register vif goes to the owner as a report.
use Rattle.std.specs.Prelude.{true, Some, List, [], ◌∷◌, ◌++◌}
use Rattle.mr_model.specs.declared.ending.Ending.{Ending}
use Rattle.mr_model.specs.declared.entry.Entry.{Entry}
use Rattle.mr_model.specs.declared.entry.Entry.TheVariants.{EndPhase}
use Rattle.mr_model.specs.declared.limits.Limits.{Limits}
use Rattle.mr_model.specs.declared.message.Kind.TheVariants.{WholePkt}
use Rattle.mr_model.specs.declared.outcome.Outcome.TheVariants.{Register}
use Rattle.mr_rows.specs.Samples.{any, source, group, usual, mask, add_vif, add_mfc, good, opening, recv, report, packet, slow, route, vif, register, route_totals, vif_totals}

abbrev pub limits : Limits
limits = usual 3 1 (0 ∷ 1 ∷ [])

abbrev pub history : List Entry
history =
    opening (0 ∷ 1 ∷ [])
    ++ good 1 (add_vif 2 4 any.0)
    ∷ good 1 (add_mfc source group 0 ((1, 1) ∷ (2, 1) ∷ []))
    ∷ EndPhase
    ∷ slow 1 6 (packet 1 source group 2) (Register 5 (Some 0) (mask (1 ∷ 2 ∷ [])) true)
    ∷ EndPhase
    ∷ recv (Some (report WholePkt 2 1))
    ∷ EndPhase ∷ []

abbrev pub tail : Ending
tail = record {
  routes = (route 5 source group 0 ((1, 1) ∷ (2, 1) ∷ []), route_totals 1 28 0) ∷ [];
  vifs = (vif 0 1 2, vif_totals 1 0 28 0) ∷ (vif 1 2 3, vif_totals 0 1 0 28) ∷ (register 2 4, vif_totals 0 1 0 28) ∷ [];
  fates = [];
}
