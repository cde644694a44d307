-- A proxy entry sends on its parent alone, and not back on it.
use Rattle.std.specs.Prelude.{List, [], ◌∷◌, ◌++◌, take}
use Rattle.mr_base.specs.declared.numbers.Addr.{Addr}
use Rattle.mr_model.specs.declared.ending.Ending.{Ending}
use Rattle.mr_model.specs.declared.entry.Entry.{Entry}
use Rattle.mr_model.specs.declared.entry.Entry.TheVariants.{EndPhase}
use Rattle.mr_model.specs.declared.limits.Limits.{Limits}
use Rattle.mr_rows.specs.Samples.{addr, any, source, group, usual, add_mfc, add_proxy, good, opening, packet, slow, forward, route, vif, route_totals, vif_totals, fast, settle}

abbrev pub limits : Limits
limits = usual 2 2 (0 ∷ 1 ∷ 2 ∷ [])

-- to a group that no other entry has
abbrev pub far_group : Addr
far_group = addr 239 9 9 9

abbrev pub history : List Entry
history =
    opening (0 ∷ 1 ∷ 2 ∷ [])
    ++ good 1 (add_proxy any any 0 ((0, 1) ∷ (1, 1) ∷ (2, 1) ∷ []))
    ∷ good 1 (add_mfc any group 0 ((0, 1) ∷ (1, 1) ∷ (2, 1) ∷ []))
    ∷ EndPhase
    ∷ slow 1 7 (packet 2 (addr 10 0 1 9) far_group 9) (forward 5 0 (0 ∷ []))
    ∷ slow 2 8 (packet 1 source far_group 9) (forward 5 0 [])
    ∷ EndPhase ∷ []

-- the same with plainly forwarded packets that were decided without the lock
abbrev pub fast_history : List Entry
fast_history = take 7 history ++ settle (fast 1 7 (packet 2 (addr 10 0 1 9) far_group 9) 5 0 (0 ∷ []) ∷ fast 2 7 (packet 1 source far_group 9) 5 0 [] ∷ []) ∷ EndPhase ∷ []

abbrev pub tail : Ending
tail = record {
  routes =
      (route 5 any any 0 ((0, 1) ∷ (1, 1) ∷ (2, 1) ∷ []), route_totals 2 56 0)
      ∷ (route 6 any group 0 ((0, 1) ∷ (1, 1) ∷ (2, 1) ∷ []), route_totals 0 0 0) ∷ [];
  vifs = (vif 0 1 2, vif_totals 2 1 56 28) ∷ (vif 1 2 3, vif_totals 0 0 0 0) ∷ (vif 2 3 4, vif_totals 0 0 0 0) ∷ [];
  fates = [];
}
