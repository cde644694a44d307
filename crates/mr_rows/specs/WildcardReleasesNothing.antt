-- An entry for any origin releases no packet that waits, though it forwards the next one of the same source and group.
use Rattle.std.specs.Prelude.{List, [], ◌∷◌, ◌++◌}
use Rattle.mr_model.specs.declared.ending.Ending.{Ending}
use Rattle.mr_model.specs.declared.ending.Fate.TheVariants.{Waiting}
use Rattle.mr_model.specs.declared.entry.Entry.{Entry}
use Rattle.mr_model.specs.declared.entry.Entry.TheVariants.{EndPhase}
use Rattle.mr_model.specs.declared.flow.Flow.{Flow}
use Rattle.mr_model.specs.declared.limits.Limits.{Limits}
use Rattle.mr_model.specs.declared.outcome.Outcome.TheVariants.{Parked}
use Rattle.mr_model.specs.declared.request.Request.{Request}
use Rattle.mr_rows.specs.Samples.{any, source, group, usual, add_mfc, good, opening, packet, slow, forward, route, vif, route_totals, vif_totals, fate_line, fast, settle}

abbrev pub limits : Limits
limits = usual 4 2 (0 ∷ 1 ∷ [])

abbrev pub flow : Flow
flow = packet 1 source group 9

abbrev pub parked : List Entry
parked = opening (0 ∷ 1 ∷ []) ++ EndPhase ∷ slow 1 4 flow Parked ∷ EndPhase ∷ []

abbrev pub entry_made : Request
entry_made = add_mfc any group 0 ((0, 1) ∷ (1, 1) ∷ [])

abbrev pub made : List Entry
made = parked ++ good 1 entry_made ∷ EndPhase ∷ []

abbrev pub history : List Entry
history = made ++ slow 2 8 flow (forward 7 0 (1 ∷ [])) ∷ EndPhase ∷ []

-- the same with plainly forwarded packets that were decided without the lock
abbrev pub fast_history : List Entry
fast_history = made ++ settle (fast 2 8 flow 7 0 (1 ∷ []) ∷ []) ∷ EndPhase ∷ []

abbrev pub tail : Ending
tail = record {
  routes = (route 7 any group 0 ((0, 1) ∷ (1, 1) ∷ []), route_totals 1 28 0) ∷ [];
  vifs = (vif 0 1 2, vif_totals 1 0 28 0) ∷ (vif 1 2 3, vif_totals 0 1 0 28) ∷ [];
  fates = fate_line 1 Waiting ∷ [];
}
