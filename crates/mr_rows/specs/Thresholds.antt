-- Two packets against thresholds: one sends on the vif with a lower one, the other on none.
use Rattle.std.specs.Prelude.{ℕ, List, [], ◌∷◌, ◌++◌}
use Rattle.mr_model.specs.declared.ending.Ending.{Ending}
use Rattle.mr_model.specs.declared.entry.Entry.{Entry}
use Rattle.mr_model.specs.declared.entry.Entry.TheVariants.{EndPhase}
use Rattle.mr_model.specs.declared.entry.FastRecord.{FastRecord}
use Rattle.mr_model.specs.declared.limits.Limits.{Limits}
use Rattle.mr_rows.specs.Samples.{source, group, second_group, usual, add_mfc, good, opening, packet, slow, forward, route, vif, route_totals, vif_totals, fast, settle}

abbrev pub limits : Limits
limits = usual 2 2 (0 ∷ 1 ∷ 2 ∷ 3 ∷ [])

abbrev pub start : List Entry
start =
    opening (0 ∷ 1 ∷ 2 ∷ 3 ∷ [])
    ++ good 1 (add_mfc source group 0 ((1, 4) ∷ (2, 5) ∷ (3, 6) ∷ []))
    ∷ good 1 (add_mfc source second_group 0 ((1, 1) ∷ []))
    ∷ EndPhase ∷ []

abbrev pub history : List Entry
history =
    start
    ++ slow 1 8 (packet 1 source group 5) (forward 6 0 (1 ∷ []))
    ∷ slow 2 9 (packet 1 source second_group 1) (forward 7 0 [])
    ∷ EndPhase ∷ []

-- the first packet, decided without the lock
abbrev pub first_passed : ℕ → FastRecord
first_passed index = fast index 8 (packet 1 source group 5) 6 0 (1 ∷ [])

-- the same with plainly forwarded packets that were decided without the lock
abbrev pub fast_history : List Entry
fast_history = start ++ settle (first_passed 1 ∷ fast 2 8 (packet 1 source second_group 1) 7 0 [] ∷ []) ∷ EndPhase ∷ []

abbrev pub tail : Ending
tail = record {
  routes =
      (route 6 source group 0 ((1, 4) ∷ (2, 5) ∷ (3, 6) ∷ []), route_totals 1 28 0)
      ∷ (route 7 source second_group 0 ((1, 1) ∷ []), route_totals 1 28 0) ∷ [];
  vifs =
      (vif 0 1 2, vif_totals 2 0 56 0) ∷ (vif 1 2 3, vif_totals 0 1 0 28)
      ∷ (vif 2 3 4, vif_totals 0 0 0 0) ∷ (vif 3 4 5, vif_totals 0 0 0 0) ∷ [];
  fates = [];
}
