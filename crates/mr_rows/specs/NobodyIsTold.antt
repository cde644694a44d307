-- Without an owner reports are lost; an attempt counts all the same, and so does a copy on the register vif.
use Rattle.std.specs.Prelude.{true, false, Some, List, [], ◌∷◌}
use Rattle.mr_model.specs.declared.ending.Ending.{Ending}
use Rattle.mr_model.specs.declared.entry.Entry.{Entry}
use Rattle.mr_model.specs.declared.entry.Entry.TheVariants.{EndPhase}
use Rattle.mr_model.specs.declared.limits.Limits.{Limits}
use Rattle.mr_model.specs.declared.outcome.Outcome.TheVariants.{Register, Wrong}
use Rattle.mr_model.specs.declared.outcome.Report.TheVariants.{Lost, Quiet}
use Rattle.mr_model.specs.declared.request.Request.TheVariants.{Assert}
use Rattle.mr_rows.specs.Samples.{any, source, group, usual, mask, add_vif, add_mfc, good, tick, packet, slow, register, route_totals, vif_totals, fixed_vif, fixed_route}

abbrev pub limits : Limits
limits = usual 4 3 (0 ∷ 1 ∷ [])

abbrev pub history : List Entry
history =
    good 1 (add_vif 0 8 1)
    ∷ good 1 (add_vif 1 8 2)
    ∷ good 1 (add_vif 2 4 any.0)
    ∷ good 1 (Assert 1)
    ∷ good 1 (add_mfc source group 0 ((1, 1) ∷ (2, 1) ∷ []))
    ∷ EndPhase
    ∷ slow 1 6 (packet 2 source group 9) (Wrong 5 (Some 1) Lost)
    ∷ slow 2 7 (packet 1 source group 9) (Register 5 (Some 0) (mask (1 ∷ 2 ∷ [])) false)
    ∷ EndPhase
    ∷ tick 3000
    ∷ EndPhase
    ∷ slow 3 11 (packet 2 source group 9) (Wrong 5 (Some 1) Quiet)
    ∷ EndPhase ∷ []

abbrev pub tail : Ending
tail = record {
  routes = (fixed_route 5 source group 0 ((1, 1) ∷ (2, 1) ∷ []), route_totals 3 84 2) ∷ [];
  vifs =
      (fixed_vif 0 1 1, vif_totals 1 0 28 0) ∷ (fixed_vif 1 2 2, vif_totals 0 1 0 28)
      ∷ (record (register 2 3) { fixed = true }, vif_totals 0 1 0 28) ∷ [];
  fates = [];
}
