-- A packet that meets its entry and goes out on one vif.
use Rattle.std.specs.Prelude.{List, [], ◌∷◌, ◌++◌}
use Rattle.mr_model.specs.declared.ending.Ending.{Ending}
use Rattle.mr_model.specs.declared.entry.Entry.{Entry}
use Rattle.mr_model.specs.declared.entry.Entry.TheVariants.{EndPhase}
use Rattle.mr_model.specs.declared.entry.FastRecord.{FastRecord}
use Rattle.mr_model.specs.declared.flow.Flow.{Flow}
use Rattle.mr_model.specs.declared.limits.Limits.{Limits}
use Rattle.mr_model.specs.declared.request.Request.TheVariants.{Init}
use Rattle.mr_model.specs.declared.step.Step.{Step}
use Rattle.mr_model.specs.declared.step.Step.TheVariants.{Fast, Kept}
use Rattle.mr_rows.specs.Samples.{source, group, usual, lane, add_vif, add_mfc, good, opening, packet, slow, forward, route, vif, route_totals, vif_totals, fast, settle}

abbrev pub limits : Limits
limits = usual 2 1 (0 ∷ 1 ∷ [])

-- on device 1, with TTL 2
abbrev pub only_packet : Flow
only_packet = packet 1 source group 2

abbrev pub start : List Entry
start = opening (0 ∷ 1 ∷ []) ++ good 1 (add_mfc source group 0 ((1, 1) ∷ [])) ∷ EndPhase ∷ []

-- the packet decided under the lock
abbrev pub history : List Entry
history = start ++ slow 1 5 only_packet (forward 4 0 (1 ∷ [])) ∷ EndPhase ∷ []

abbrev pub fast_record : FastRecord
fast_record = fast 1 5 only_packet 4 0 (1 ∷ [])

abbrev pub settled : Entry
settled = settle (fast_record ∷ [])

-- the same with the packet forwarded without the lock
abbrev pub fast_history : List Entry
fast_history = start ++ settled ∷ EndPhase ∷ []

-- The packet stands behind the five entries that its look had seen, and before the one that counts it.
abbrev pub steps : List Step
steps =
    Kept (good 1 Init) ∷ Kept (good 1 (add_vif 0 8 1)) ∷ Kept (good 1 (add_vif 1 8 2))
    ∷ Kept (good 1 (add_mfc source group 0 ((1, 1) ∷ []))) ∷ Kept EndPhase ∷ Fast (lane 1) fast_record
    ∷ Kept settled ∷ Kept EndPhase ∷ []

abbrev pub tail : Ending
tail = record {
  routes = (route 4 source group 0 ((1, 1) ∷ []), route_totals 1 28 0) ∷ [];
  vifs = (vif 0 1 2, vif_totals 1 0 28 0) ∷ (vif 1 2 3, vif_totals 0 1 0 28) ∷ [];
  fates = [];
}
