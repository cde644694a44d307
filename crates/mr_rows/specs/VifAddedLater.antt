-- An entry is asked for no vif, for the threshold 255 and for a vif that is added only afterwards: it sends on none.
use Rattle.std.specs.Prelude.{List, [], ◌∷◌, ◌++◌, take}
use Rattle.mr_model.specs.declared.ending.Ending.{Ending}
use Rattle.mr_model.specs.declared.entry.Entry.{Entry}
use Rattle.mr_model.specs.declared.entry.Entry.TheVariants.{EndPhase}
use Rattle.mr_model.specs.declared.limits.Limits.{Limits}
use Rattle.mr_rows.specs.Samples.{source, group, usual, add_vif, add_mfc, good, opening, packet, slow, forward, route, vif, route_totals, vif_totals, fast, settle}

abbrev pub limits : Limits
limits = usual 2 1 (0 ∷ 1 ∷ 2 ∷ 3 ∷ [])

abbrev pub history : List Entry
history =
    opening (0 ∷ 1 ∷ 2 ∷ [])
    ++ good 1 (add_mfc source group 0 ((1, 0) ∷ (2, 255) ∷ (3, 1) ∷ []))
    ∷ good 1 (add_vif 3 8 4)
    ∷ EndPhase
    ∷ slow 1 7 (packet 1 source group 255) (forward 5 0 [])
    ∷ EndPhase ∷ []

-- the same with plainly forwarded packets that were decided without the lock
abbrev pub fast_history : List Entry
fast_history = take 7 history ++ settle (fast 1 7 (packet 1 source group 255) 5 0 [] ∷ []) ∷ EndPhase ∷ []

abbrev pub tail : Ending
tail = record {
  routes = (route 5 source group 0 [], route_totals 1 28 0) ∷ [];
  vifs =
      (vif 0 1 2, vif_totals 1 0 28 0) ∷ (vif 1 2 3, vif_totals 0 0 0 0)
      ∷ (vif 2 3 4, vif_totals 0 0 0 0) ∷ (vif 3 4 6, vif_totals 0 0 0 0) ∷ [];
  fates = [];
}
