-- Wildcards and the proxy entry of their parent: an entry for any origin is met and passes by it, an exact entry does not; and
-- after it no longer reaches the parent nothing passes by it.
use Rattle.std.specs.Prelude.{Some, List, [], ◌∷◌, ◌++◌}
use Rattle.mr_model.specs.declared.ending.Ending.{Ending}
use Rattle.mr_model.specs.declared.ending.Fate.TheVariants.{Waiting}
use Rattle.mr_model.specs.declared.entry.Entry.{Entry}
use Rattle.mr_model.specs.declared.entry.Entry.TheVariants.{EndPhase}
use Rattle.mr_model.specs.declared.limits.Limits.{Limits}
use Rattle.mr_model.specs.declared.outcome.Outcome.TheVariants.{Parked, Wrong}
use Rattle.mr_model.specs.declared.outcome.Report.TheVariants.{Quiet}
use Rattle.mr_rows.specs.Samples.{addr, any, source, group, second_group, usual, add_mfc, add_proxy, good, opening, packet, slow, forward, route, vif, route_totals, vif_totals, fate_line}

abbrev pub limits : Limits
limits = usual 4 7 (0 ∷ 1 ∷ 2 ∷ [])

-- with the proxy entry reaching vifs 0 and 1
abbrev pub reached : List Entry
reached =
    opening (0 ∷ 1 ∷ 2 ∷ [])
    ++ good 1 (add_proxy any any 0 ((0, 1) ∷ (1, 1) ∷ []))
    ∷ good 1 (add_mfc any group 0 ((2, 1) ∷ []))
    ∷ good 1 (add_mfc source group 0 ((2, 1) ∷ []))
    ∷ EndPhase
    ∷ slow 1 8 (packet 2 (addr 10 0 1 9) group 9) (forward 6 0 (2 ∷ []))
    ∷ slow 2 9 (packet 2 source group 9) (Wrong 7 (Some 1) Quiet)
    ∷ slow 3 10 (packet 3 (addr 10 0 2 9) group 9) (Wrong 6 (Some 2) Quiet)
    ∷ slow 4 11 (packet 3 (addr 10 0 2 9) second_group 9) Parked
    ∷ slow 5 12 (packet 2 (addr 10 0 1 9) second_group 9) (forward 5 0 (0 ∷ []))
    ∷ EndPhase ∷ []

-- and then vif 1 alone
abbrev pub history : List Entry
history =
    reached
    ++ good 1 (add_proxy any any 0 ((1, 1) ∷ []))
    ∷ EndPhase
    ∷ slow 6 16 (packet 2 (addr 10 0 1 9) group 9) (Wrong 5 (Some 1) Quiet)
    ∷ slow 7 17 (packet 1 source second_group 9) Parked
    ∷ EndPhase ∷ []

abbrev pub tail : Ending
tail = record {
  routes =
      (route 5 any any 0 ((1, 1) ∷ []), route_totals 2 56 1)
      ∷ (route 6 any group 0 ((2, 1) ∷ []), route_totals 2 56 1)
      ∷ (route 7 source group 0 ((2, 1) ∷ []), route_totals 1 28 1) ∷ [];
  vifs = (vif 0 1 2, vif_totals 2 1 56 28) ∷ (vif 1 2 3, vif_totals 0 0 0 0) ∷ (vif 2 3 4, vif_totals 0 1 0 28) ∷ [];
  fates = fate_line 4 Waiting ∷ fate_line 7 Waiting ∷ [];
}
