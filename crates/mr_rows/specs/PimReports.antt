-- With pim on a wrong interface is reported though the entry does not reach it, and with pim off it is not.
use Rattle.std.specs.Prelude.{Some, List, [], ◌∷◌, ◌++◌}
use Rattle.mr_model.specs.declared.ending.Ending.{Ending}
use Rattle.mr_model.specs.declared.entry.Entry.{Entry}
use Rattle.mr_model.specs.declared.entry.Entry.TheVariants.{EndPhase}
use Rattle.mr_model.specs.declared.flow.Flow.{Flow}
use Rattle.mr_model.specs.declared.limits.Limits.{Limits}
use Rattle.mr_model.specs.declared.message.Kind.TheVariants.{WrongVif}
use Rattle.mr_model.specs.declared.outcome.Outcome.TheVariants.{Wrong}
use Rattle.mr_model.specs.declared.outcome.Report.TheVariants.{Quiet, Told}
use Rattle.mr_model.specs.declared.request.Request.TheVariants.{Assert, Pim}
use Rattle.mr_rows.specs.Samples.{source, group, usual, add_mfc, good, opening, tick, recv, report, packet, slow, route, vif, route_totals, vif_totals}

abbrev pub limits : Limits
limits = usual 5 2 (0 ∷ 1 ∷ [])

abbrev pub strayed : Flow
strayed = packet 2 source group 9

abbrev pub history : List Entry
history =
    opening (0 ∷ 1 ∷ [])
    ++ good 1 (Pim 1)
    ∷ good 1 (add_mfc source group 0 [])
    ∷ EndPhase
    ∷ slow 1 6 strayed (Wrong 5 (Some 1) Told)
    ∷ EndPhase
    ∷ good 1 (Pim 0)
    ∷ good 1 (Assert 1)
    ∷ tick 5000
    ∷ EndPhase
    ∷ slow 2 12 strayed (Wrong 5 (Some 1) Quiet)
    ∷ EndPhase
    ∷ recv (Some (report WrongVif 1 1))
    ∷ EndPhase ∷ []

abbrev pub tail : Ending
tail = record {
  routes = (route 5 source group 0 [], route_totals 2 56 2) ∷ [];
  vifs = (vif 0 1 2, vif_totals 0 0 0 0) ∷ (vif 1 2 3, vif_totals 0 0 0 0) ∷ [];
  fates = [];
}
