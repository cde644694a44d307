-- Packets on a wrong interface: the first is reported, one three seconds later is not, and one a millisecond after that is.
use Rattle.std.specs.Prelude.{Some, List, [], ◌∷◌, ◌++◌}
use Rattle.mr_model.specs.declared.ending.Ending.{Ending}
use Rattle.mr_model.specs.declared.entry.Entry.{Entry}
use Rattle.mr_model.specs.declared.entry.Entry.TheVariants.{EndPhase}
use Rattle.mr_model.specs.declared.flow.Flow.{Flow}
use Rattle.mr_model.specs.declared.limits.Limits.{Limits}
use Rattle.mr_model.specs.declared.outcome.Outcome.TheVariants.{Wrong}
use Rattle.mr_model.specs.declared.outcome.Report.TheVariants.{Quiet, Told}
use Rattle.mr_model.specs.declared.request.Request.TheVariants.{Assert}
use Rattle.mr_rows.specs.Samples.{source, group, usual, add_mfc, good, opening, tick, packet, slow, route, vif, route_totals, vif_totals}

abbrev pub limits : Limits
limits = usual 6 3 (0 ∷ 1 ∷ [])

abbrev pub strayed : Flow
strayed = packet 2 source group 9

-- up to the first of them
abbrev pub first_reported : List Entry
first_reported =
    opening (0 ∷ 1 ∷ [])
    ++ good 1 (Assert 1)
    ∷ good 1 (add_mfc source group 0 ((1, 1) ∷ []))
    ∷ EndPhase
    ∷ slow 1 6 strayed (Wrong 5 (Some 1) Told) ∷ []

abbrev pub three_seconds_later : List Entry
three_seconds_later = first_reported ++ EndPhase ∷ tick 3000 ∷ EndPhase ∷ []

abbrev pub history : List Entry
history =
    three_seconds_later
    ++ slow 2 10 strayed (Wrong 5 (Some 1) Quiet)
    ∷ EndPhase
    ∷ tick 1
    ∷ EndPhase
    ∷ slow 3 14 strayed (Wrong 5 (Some 1) Told)
    ∷ EndPhase ∷ []

abbrev pub tail : Ending
tail = record {
  routes = (route 5 source group 0 ((1, 1) ∷ []), route_totals 3 84 3) ∷ [];
  vifs = (vif 0 1 2, vif_totals 0 0 0 0) ∷ (vif 1 2 3, vif_totals 0 0 0 0) ∷ [];
  fates = [];
}
